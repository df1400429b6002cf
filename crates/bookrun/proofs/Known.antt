-- Known bytes that grow, and that are consumed, in steps. Assumes nothing.
use Rattle.std.proofs.Common.{◌≡◌, ℕ, List, [], ◌++◌, append_assoc, append-nil, ap, sym, subst, take, ◌∙◌, rules}
use Rattle.std.specs.Prelude.{Option, Some, None, Result, Ok, Err, OnOk, MatchResult}
use Rattle.std.specs.Io.KnownBytes.{Appends, Keeps, Consumes, ReadConsumes}

-- ## An output

pub appends_on : (a b c : Option (List ℕ)) (x y : List ℕ) → Appends a b x → Appends b c y → Appends a c (x ++ y)
appends_on None b c x y p q = search rules
appends_on (Some xs) None c x y p q = elim p [ ]
appends_on (Some xs) (Some ys) None x y p q = elim q [ ]
appends_on (Some xs) (Some ys) (Some zs) x y p q = q ∙ ap (λ z. z ++ y) p ∙ append_assoc xs x y

pub appends_kept : (a b c : Option (List ℕ)) (x : List ℕ) → Appends a b x → Keeps b c → Appends a c x
appends_kept None b c x p q = search rules
appends_kept (Some xs) None c x p q = elim p [ ]
appends_kept (Some xs) (Some ys) None x p q = elim q [ ]
appends_kept (Some xs) (Some ys) (Some zs) x p q = q ∙ p

-- ## An input

pub consumes_on : (a b c : Option (List ℕ)) (x y : List ℕ) → Consumes a b x → Consumes b c y → Consumes a c (x ++ y)
consumes_on None b c x y p q = search rules
consumes_on (Some xs) None c x y p q = elim p [ ]
consumes_on (Some xs) (Some ys) None x y p q = elim q [ ]
consumes_on (Some xs) (Some ys) (Some zs) x y p q = p ∙ ap (λ z. x ++ z) q ∙ sym (append_assoc x y zs)

-- what a read gave at `Ok`, and at the end
pub read_gave : {E : Type 0} (a b : Option (List ℕ)) (r : Result ℕ E) (n : ℕ) (buf : List ℕ) → r ≡ Ok n → ReadConsumes a b r buf → Consumes a b (take n buf)
read_gave a b r n buf e p = (subst (λ x. ReadConsumes a b x buf) e p).0

pub consumes_end : (a b c : Option (List ℕ)) (x buf : List ℕ) (n : ℕ) → n ≡ 0 → Consumes a b x → Consumes b c (take n buf) → Consumes a c x
consumes_end a b c x buf n e p q = rw (append-nil x) at (consumes_on a b c x [] p (subst (λ m. Consumes b c (take m buf)) e q))

-- ## A result

pub on_ok : {T E P : Type 0} (r : Result T E) → P → OnOk r P
on_ok (Ok x) p = p
on_ok (Err e) p = search rules

pub was_ok : {T E P : Type 0} (r : Result T E) (x : T) → r ≡ Ok x → OnOk r P → P
was_ok {T} {E} {P} r x e p = subst (λ (s : Result T E). OnOk s P) e p

-- a context changes no `Ok`, and P says R
pub in_context : {T D E : Type 0} (P R : Type 0) (Q : E → Type 0) (r : Result T E) (s : Result T D) → (P → R) → MatchResult r (λ x. s ≡ Ok x) Q → OnOk s P → OnOk r R
in_context P R Q (Ok x) s f m p = f (was_ok s x m p)
in_context P R Q (Err e) s f m p = search rules
