-- What the program makes of a text: what it prints, and the state that it leaves.
use Rattle.std.specs.Prelude.{ℕ, Option, List, ◌++◌}
use Rattle.std.specs.Io.KnownBytes.{Appends, Consumes}
use Rattle.lines.specs.Feeding.{Between}
use Rattle.lines.specs.Texts.{Session}

-- text makes s into t and prints these bytes: what t prints of a later text comes after them
abbrev pub Prints : Between → List ℕ → Between → List ℕ → Type 0
Prints s text t bytes = (later out : List ℕ) → Session t later out → Session s (text ++ later) (bytes ++ out)

-- an output grew by what a text prints
abbrev pub Answers : Between → List ℕ → Between → Option (List ℕ) → Option (List ℕ) → Type 0
Answers s text t before after = (bytes : List ℕ) × Appends before after bytes × Prints s text t bytes

-- an output grew by what a text and its end print
abbrev pub Ends : Between → List ℕ → Option (List ℕ) → Option (List ℕ) → Type 0
Ends s text before after = (bytes : List ℕ) × Appends before after bytes × Session s text bytes

-- a text was read, and an output grew by what it and its end print
abbrev pub Runs : Between → Option (List ℕ) → Option (List ℕ) → Option (List ℕ) → Option (List ℕ) → Type 0
Runs s unread left before after = (text : List ℕ) × Consumes unread left text × Ends s text before after
