-- Demand 1: every byte string gets a defined reply and every call ends; a refusal alters neither the book nor any lent buffer.
use Rattle.std.specs.Prelude.{ℕ, ◌≤◌, ◌≡◌, Bool, true, false, ◌||◌, List, [], ◌∷◌, length, leb, eqb, if◌then◌else◌}
use Rattle.figures.specs.Limits.{reply_widths}
use Rattle.frames.specs.Numbers.{total}
use Rattle.rules.specs.Pages.{Pages}
use Rattle.rules.specs.Replies.{code, reply_bytes}
use Rattle.rules.specs.Rules.{call}
use Rattle.demands.specs.Runs.{Call, called, final}

-- the codes of 01, Replies
abbrev pub codes : List ℕ
codes = 0x00 ∷ 0x01 ∷ 0x02 ∷ 0x10 ∷ 0x11 ∷ 0x12 ∷ 0x13 ∷ 0x14 ∷ 0x15 ∷ 0x16 ∷ 0x17 ∷ 0x18 ∷ 0x19 ∷ 0x1A ∷ 0x1B ∷ []

abbrev pub among : ℕ → List ℕ → Bool
among c [] = false
among c (d ∷ ds) = eqb c d || among c ds

-- every byte string and every lent buffer gets a reply of the table, of the table's width; that the code's calls end is part of each one's proof
abbrev pub EveryCallAnswers : Type 0
EveryCallAnswers =
    (b : Pages) (s u : List ℕ) → (among (code (call b s u).reply) codes ≡ true) × (length (reply_bytes (call b s u).reply) ≡ total reply_widths)

-- a code of 10 or more alters neither book nor buffer
abbrev pub RefusalsAlterNothing : Type 0
RefusalsAlterNothing = (b : Pages) (s u : List ℕ) → 0x10 ≤ code (call b s u).reply → ((call b s u).book ≡ b) × ((call b s u).buffer ≡ u)

-- the calls of a run that were not refused
unfoldable pub accepted : Pages → List Call → List Call
accepted b [] = []
accepted b (c ∷ cs) =
    if leb 0x10 (code (called b c).reply) then accepted (called b c).book cs else c ∷ accepted (called b c).book cs

-- over runs: a run ends in the same book without its refused calls
abbrev pub RefusalsLeaveNoTrace : Type 0
RefusalsLeaveNoTrace = (b : Pages) (cs : List Call) → final b (accepted b cs) ≡ final b cs
