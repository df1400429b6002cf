-- Sessions that go on where a call of `feed` or `finish` left off. Assumes nothing.
use Rattle.std.proofs.Common.{◌≡◌, ℕ, ◌≤◌, List, [], ◌++◌, length, take, drop, append_assoc, append-nil, sym, subst}
use Rattle.lines.specs.declared.Fed.{Fed}
use Rattle.lines.specs.Hex.{reply_line}
use Rattle.lines.specs.Feeding.{Between, started, seen, Left, left, feeding, finishing}
use Rattle.std.specs.Prelude.{Option}
use Rattle.std.specs.Io.KnownBytes.{Appends, Consumes}
use Rattle.bookrun.specs.Prints.{Answers, Ends, Runs}
use Rattle.bookrun.proofs.Known.{appends_on}
use Rattle.lines.specs.Texts.{written, output, Session, fed, finished}
use Rattle.lines.proofs.Theorems.{session}

-- what is left of a text leads from s to the end of a session of the whole text from s₀
abbrev pub Leads : Between → List ℕ → Between → List ℕ → List ℕ → Type 0
Leads s₀ text s rest bytes = (later out : List ℕ) → Session s (rest ++ later) out → Session s₀ (text ++ later) (bytes ++ out)

pub leads_on : (s₀ s : Between) (text rest bytes o o' : List ℕ) (f : Fed) → left f o' ≡ feeding s rest o
    → Leads s₀ text s rest bytes → Leads s₀ text (seen f.state) (drop f.used rest) (bytes ++ take f.made o')
leads_on s₀ s text rest bytes o o' f e h later out p =
    let P : Left → Type 0 = λ x. Session x.state (drop x.used rest ++ later) out → Session s (rest ++ later) (written x ++ out) in
    let q : P (feeding s rest o) = fed rest later o in
    let r = subst P (sym e) q p in
    rw (append_assoc bytes (take f.made o') out) (h later (take f.made o' ++ out) r)

pub ends_here : (s : Between) (o o' : List ℕ) (f : Fed) → left f o' ≡ finishing s o → reply_line ≤ length o → Session s [] (take f.made o')
ends_here s o o' f e r = subst (λ (x : Left). Session s [] (written x)) (sym e) (finished o r)

pub answers_on : (s t u : Between) (l m : List ℕ) (a b c : Option (List ℕ)) → Answers s l t a b → Answers t m u b c → Answers s (l ++ m) u a c
answers_on s t u l m a b c p q = (
  p.0 ++ q.0,
  appends_on a b c p.0 q.0 p.1 q.1,
  λ later out h. rw (append_assoc l m later, append_assoc p.0 q.0 out) (p.2 (m ++ later) (q.0 ++ out) (q.2 later out h)),
)

pub runs_on : (s t : Between) (l : List ℕ) (i j a b c : Option (List ℕ)) → Consumes i j l → Answers s l t a b → Ends t [] b c → Runs s i j a c
runs_on s t l i j a b c k p q =
    (l, k, (p.0 ++ q.0, appends_on a b c p.0 q.0 p.1 q.1, rw (append-nil l) at (p.2 [] q.0 q.2)))

-- from an empty book the output grew by the whole output for the text, as `lines` defines it
pub runs_whole : (i j a b : Option (List ℕ)) → Runs started i j a b → (text : List ℕ) × Consumes i j text × Appends a b (output started.book text)
runs_whole i j a b p =
    let q : Ends started p.0 a b = p.2 in
    (p.0, p.1, subst (λ x. Appends a b x) (session p.0 q.0 q.2) q.1)
