-- Each promise of a public function has one outcome: two that it allows coincide. It is stated of the promises themselves. Assumes nothing.
use mathlib.Core.Path.{◌≡◌, sym, ap, ◌∙◌}
use mathlib.Core.Bool.{Bool, ◌&&◌}
use contract.Lifetimes.{Lfts}
use Rattle.std.proofs.Math.Bool.{and_assoc, and_comm}
use lib.Dec.{eqb}
use Rattle.figures.specs.Types.{KeyId}
use Rattle.figures.specs.Names.{same_id, same_name}
use Rattle.figures.proofs.accounts.Credit.of.Reads as Credit-of
use Rattle.figures.proofs.accounts.Account.can_pay.Reads as Account-can-pay
use Rattle.figures.proofs.accounts.Account.charged.Reads as Account-charged
use Rattle.figures.proofs.accounts.Account.spend.Reads as Account-spend
use Rattle.figures.proofs.accounts.Account.counter.Reads as Account-counter
use Rattle.figures.proofs.keys.KeyHeld.free.Reads as Key-free
use Rattle.figures.proofs.keys.KeyHeld.is_held.Reads as Key-is-held
use Rattle.figures.proofs.keys.KeyHeld.is_named.Reads as Key-is-named
use Rattle.figures.proofs.keys.Key.granted.Reads as Key-granted
use Rattle.figures.proofs.keys.Key.loaded.Reads as Key-loaded
use Rattle.figures.proofs.loads.Load.settled.Reads as Load-settled
use Rattle.figures.proofs.loads.Load.right.Reads as Load-right
use Rattle.figures.proofs.loads.Load.free_of_cost.Reads as Load-free-of-cost
use Rattle.figures.proofs.loads.Load.bare.Reads as Load-bare
use Rattle.figures.proofs.names.TokensPartialEq.eq.Reads as Tokens-eq
use Rattle.figures.proofs.names.TrafficKeysPartialEq.eq.Reads as TrafficKeys-eq
use Rattle.figures.proofs.names.TimestampPartialEq.eq.Reads as Timestamp-eq
use Rattle.figures.proofs.names.KeyDomainPartialEq.eq.Reads as KeyDomain-eq
use Rattle.figures.proofs.names.IntervalPartialEq.eq.Reads as Interval-eq
use Rattle.figures.proofs.names.TokensPartialOrd.partial_cmp.Reads as Tokens-partial-cmp
use Rattle.figures.proofs.names.TokensOrd.cmp.Reads as Tokens-cmp
use Rattle.figures.proofs.names.TrafficKeysPartialOrd.partial_cmp.Reads as TrafficKeys-partial-cmp
use Rattle.figures.proofs.names.TrafficKeysOrd.cmp.Reads as TrafficKeys-cmp
use Rattle.figures.proofs.names.TimestampPartialOrd.partial_cmp.Reads as Timestamp-partial-cmp
use Rattle.figures.proofs.names.TimestampOrd.cmp.Reads as Timestamp-cmp
use Rattle.figures.proofs.names.KeyIdPartialEq.eq.Reads as KeyId-eq
use Rattle.figures.proofs.names.RightNamePartialEq.eq.Reads as RightName-eq
use Rattle.figures.proofs.names.Interval.covers.Reads as Interval-covers
use Rattle.figures.proofs.names.Interval.proper.Reads as Interval-proper
use Rattle.figures.proofs.names.Timestamp.live.Reads as Timestamp-live
use Rattle.figures.proofs.policies.is_live.Reads as is_live
use Rattle.figures.proofs.policies.is_counted.Reads as is-counted
use Rattle.figures.proofs.policies.is_purse.Reads as is-purse
use Rattle.figures.proofs.policies.is_deletion.Reads as is-deletion
use Rattle.figures.proofs.policies.policy.Reads as policy
use Rattle.figures.proofs.policies.count_limit.Reads as count-limit
use Rattle.figures.proofs.policies.purse_limit.Reads as purse_limit
use Rattle.figures.proofs.replies.RefusalPartialEq.eq.Reads as Refusal-eq
use Rattle.figures.proofs.replies.U8FromRefusal.from.Reads as U8-from-Refusal
use Rattle.figures.proofs.rights.RightHeld.free.Reads as Right-free
use Rattle.figures.proofs.rights.RightHeld.is_held.Reads as Right-is-held
use Rattle.figures.proofs.rights.RightHeld.is_named.Reads as Right-is-named
use Rattle.figures.proofs.rights.Right.is_of.Reads as Right-is-of
use Rattle.figures.proofs.rights.Right.fits.Reads as Right-fits
use Rattle.figures.proofs.rights.Right.charged.Reads as Right-charged
use Rattle.figures.proofs.rights.Right.free_if_of.Reads as Right-free-if-of
use Rattle.figures.proofs.rights.Right.unless_of.Reads as Right-unless-of
use Rattle.places.proofs.Tight.{verdict_once}

pub Credit-of_once : (κs : Lfts 0) (a : _) (r r' : _) (s s' : _) → Credit-of.Post κs a r s → Credit-of.Post κs a r' s' → r ≡ r'
Credit-of_once κs a r r' s s' p q = p ∙ sym q

pub Account-can_pay_once : (κs : Lfts 0) (a : _) (r r' : _) (s s' : _) → Account-can-pay.Post κs a r s → Account-can-pay.Post κs a r' s' → r ≡ r'
Account-can_pay_once κs a r r' s s' p q = p ∙ sym q

pub Account-charged_once : (κs : Lfts 0) (a : _) (r r' : _) (s s' : _) → Account-charged.Post κs a r s → Account-charged.Post κs a r' s' → r ≡ r'
Account-charged_once κs a r r' s s' p q = p ∙ sym q

pub Account-spend_once : (κs : Lfts 0) (a : _) (r r' : _) (s s' : _) → Account-spend.Post κs a r s → Account-spend.Post κs a r' s' → r ≡ r'
Account-spend_once κs a r r' s s' p q = p ∙ sym q

pub Account-counter_once : (κs : Lfts 0) (a : _) (r r' : _) (s s' : _) → Account-counter.Post κs a r s → Account-counter.Post κs a r' s' → r ≡ r'
Account-counter_once κs a r r' s s' p q = p ∙ sym q

pub KeyHeld-free_once : (κs : Lfts 0) (a : _) (r r' : _) (s s' : _) → Key-free.Post κs a r s → Key-free.Post κs a r' s' → r ≡ r'
KeyHeld-free_once κs a r r' s s' p q = p ∙ sym q

pub KeyHeld-is_named_once : (κs : Lfts 0) (a : _) (r r' : _) (s s' : _) → Key-is-named.Post κs a r s → Key-is-named.Post κs a r' s' → r ≡ r'
KeyHeld-is_named_once κs a r r' s s' p q = p ∙ sym q

pub KeyHeld-is_held_once : (κs : Lfts 0) (a : _) (r r' : _) (s s' : _) → Key-is-held.Post κs a r s → Key-is-held.Post κs a r' s' → r ≡ r'
KeyHeld-is_held_once κs a r r' s s' p q = p ∙ sym q

pub Key-granted_once : (κs : Lfts 0) (a : _) (r r' : _) (s s' : _) → Key-granted.Post κs a r s → Key-granted.Post κs a r' s' → r ≡ r'
Key-granted_once κs a r r' s s' p q = p ∙ sym q

pub Key-loaded_once : (κs : Lfts 0) (a : _) (r r' : _) (s s' : _) → Key-loaded.Post κs a r s → Key-loaded.Post κs a r' s' → r ≡ r'
Key-loaded_once κs a r r' s s' p q = p ∙ sym q

pub Load-settled_once : (κs : Lfts 0) (a : _) (r r' : _) (s s' : _) → Load-settled.Post κs a r s → Load-settled.Post κs a r' s' → r ≡ r'
Load-settled_once κs a r r' s s' p q = p ∙ sym q

pub Load-right_once : (κs : Lfts 0) (a : _) (r r' : _) (s s' : _) → Load-right.Post κs a r s → Load-right.Post κs a r' s' → r ≡ r'
Load-right_once κs a r r' s s' p q = p ∙ sym q

pub Load-free_of_cost_once : (κs : Lfts 0) (a : _) (r r' : _) (s s' : _) → Load-free-of-cost.Post κs a r s → Load-free-of-cost.Post κs a r' s' → r ≡ r'
Load-free_of_cost_once κs a r r' s s' p q = verdict_once r r' (p ∙ sym q)

pub Load-bare_once : (κs : Lfts 0) (a : _) (r r' : _) (s s' : _) → Load-bare.Post κs a r s → Load-bare.Post κs a r' s' → r ≡ r'
Load-bare_once κs a r r' s s' p q = verdict_once r r' (p ∙ sym q)

-- of `==` and of order, which the derives write
pub Tokens-same_once : (κs : Lfts 2) (a : _) (r r' : _) (s s' : _) → Tokens-eq.Post κs a r s → Tokens-eq.Post κs a r' s' → r ≡ r'
Tokens-same_once κs a r r' s s' p q = p ∙ sym q

pub TrafficKeys-same_once : (κs : Lfts 2) (a : _) (r r' : _) (s s' : _) → TrafficKeys-eq.Post κs a r s → TrafficKeys-eq.Post κs a r' s' → r ≡ r'
TrafficKeys-same_once κs a r r' s s' p q = p ∙ sym q

pub Timestamp-same_once : (κs : Lfts 2) (a : _) (r r' : _) (s s' : _) → Timestamp-eq.Post κs a r s → Timestamp-eq.Post κs a r' s' → r ≡ r'
Timestamp-same_once κs a r r' s s' p q = p ∙ sym q

pub KeyDomain-same_once : (κs : Lfts 2) (a : _) (r r' : _) (s s' : _) → KeyDomain-eq.Post κs a r s → KeyDomain-eq.Post κs a r' s' → r ≡ r'
KeyDomain-same_once κs a r r' s s' p q = p ∙ sym q

pub Interval-same_once : (κs : Lfts 2) (a : _) (r r' : _) (s s' : _) → Interval-eq.Post κs a r s → Interval-eq.Post κs a r' s' → r ≡ r'
Interval-same_once κs a r r' s s' p q = p ∙ sym q

pub Refusal-same_once : (κs : Lfts 2) (a : _) (r r' : _) (s s' : _) → Refusal-eq.Post κs a r s → Refusal-eq.Post κs a r' s' → r ≡ r'
Refusal-same_once κs a r r' s s' p q = p ∙ sym q

pub Tokens-partial_cmp_once : (κs : Lfts 2) (a : _) (r r' : _) (s s' : _) → Tokens-partial-cmp.Post κs a r s → Tokens-partial-cmp.Post κs a r' s' → r ≡ r'
Tokens-partial_cmp_once κs a r r' s s' p q = p ∙ sym q

pub Tokens-cmp_once : (κs : Lfts 2) (a : _) (r r' : _) (s s' : _) → Tokens-cmp.Post κs a r s → Tokens-cmp.Post κs a r' s' → r ≡ r'
Tokens-cmp_once κs a r r' s s' p q = p ∙ sym q

pub TrafficKeys-partial_cmp_once : (κs : Lfts 2) (a : _) (r r' : _) (s s' : _) → TrafficKeys-partial-cmp.Post κs a r s → TrafficKeys-partial-cmp.Post κs a r' s' → r ≡ r'
TrafficKeys-partial_cmp_once κs a r r' s s' p q = p ∙ sym q

pub TrafficKeys-cmp_once : (κs : Lfts 2) (a : _) (r r' : _) (s s' : _) → TrafficKeys-cmp.Post κs a r s → TrafficKeys-cmp.Post κs a r' s' → r ≡ r'
TrafficKeys-cmp_once κs a r r' s s' p q = p ∙ sym q

pub Timestamp-partial_cmp_once : (κs : Lfts 2) (a : _) (r r' : _) (s s' : _) → Timestamp-partial-cmp.Post κs a r s → Timestamp-partial-cmp.Post κs a r' s' → r ≡ r'
Timestamp-partial_cmp_once κs a r r' s s' p q = p ∙ sym q

pub Timestamp-cmp_once : (κs : Lfts 2) (a : _) (r r' : _) (s s' : _) → Timestamp-cmp.Post κs a r s → Timestamp-cmp.Post κs a r' s' → r ≡ r'
Timestamp-cmp_once κs a r r' s s' p q = p ∙ sym q

pub KeyId-same_once : (κs : Lfts 2) (a : _) (r r' : _) (s s' : _) → KeyId-eq.Post κs a r s → KeyId-eq.Post κs a r' s' → r ≡ r'
KeyId-same_once κs a r r' s s' p q = p ∙ sym q

-- a derived `==` asks the number before the group, as the fields stand
asked : (x y : KeyId)
    → (eqb x.domain.0 y.domain.0 && (eqb x.domain.1 y.domain.1 && eqb x.domain.2 y.domain.2) && (eqb x.number y.number && eqb x.group y.group)) ≡ same_id x y
unfolding same_id
asked x y =
    ap (λ (b : Bool). eqb x.domain.0 y.domain.0 && (eqb x.domain.1 y.domain.1 && eqb x.domain.2 y.domain.2) && b) (and_comm (eqb x.number y.number) (eqb x.group y.group))
    ∙ simp and_assoc

pub KeyId-eq_is : (κs : Lfts 2) (a : _) (r : _) (s : _) → KeyId-eq.Post κs a r s → r ≡ same_id a.0.now a.1.0.now
KeyId-eq_is κs a r s p = p ∙ asked a.0.now a.1.0.now

pub RightName-same_once : (κs : Lfts 2) (a : _) (r r' : _) (s s' : _) → RightName-eq.Post κs a r s → RightName-eq.Post κs a r' s' → r ≡ r'
RightName-same_once κs a r r' s s' p q = p ∙ sym q

pub RightName-eq_is : (κs : Lfts 2) (a : _) (r : _) (s : _) → RightName-eq.Post κs a r s → r ≡ same_name a.0.now a.1.0.now
unfolding same_name
RightName-eq_is κs a r s p =
    let x = a.0.now in
    let y = a.1.0.now in
    let rest = eqb x.interval.low.0 y.interval.low.0 && eqb x.interval.high.0 y.interval.high.0 && eqb x.spe y.spe in
    p ∙ ap (λ (b : Bool). b && rest) (asked x.id y.id) ∙ simp and_assoc

pub Interval-covers_once : (κs : Lfts 0) (a : _) (r r' : _) (s s' : _) → Interval-covers.Post κs a r s → Interval-covers.Post κs a r' s' → r ≡ r'
Interval-covers_once κs a r r' s s' p q = p ∙ sym q

pub Interval-proper_once : (κs : Lfts 0) (a : _) (r r' : _) (s s' : _) → Interval-proper.Post κs a r s → Interval-proper.Post κs a r' s' → r ≡ r'
Interval-proper_once κs a r r' s s' p q = verdict_once r r' (p ∙ sym q)

pub Timestamp-live_once : (κs : Lfts 0) (a : _) (r r' : _) (s s' : _) → Timestamp-live.Post κs a r s → Timestamp-live.Post κs a r' s' → r ≡ r'
Timestamp-live_once κs a r r' s s' p q = p ∙ sym q

pub is_live_once : (κs : Lfts 0) (a : _) (r r' : _) (s s' : _) → is_live.Post κs a r s → is_live.Post κs a r' s' → r ≡ r'
is_live_once κs a r r' s s' p q = p ∙ sym q

pub is_counted_once : (κs : Lfts 0) (a : _) (r r' : _) (s s' : _) → is-counted.Post κs a r s → is-counted.Post κs a r' s' → r ≡ r'
is_counted_once κs a r r' s s' p q = p ∙ sym q

pub is_purse_once : (κs : Lfts 0) (a : _) (r r' : _) (s s' : _) → is-purse.Post κs a r s → is-purse.Post κs a r' s' → r ≡ r'
is_purse_once κs a r r' s s' p q = p ∙ sym q

pub is_deletion_once : (κs : Lfts 0) (a : _) (r r' : _) (s s' : _) → is-deletion.Post κs a r s → is-deletion.Post κs a r' s' → r ≡ r'
is_deletion_once κs a r r' s s' p q = p ∙ sym q

pub policy_once : (κs : Lfts 0) (a : _) (r r' : _) (s s' : _) → policy.Post κs a r s → policy.Post κs a r' s' → r ≡ r'
policy_once κs a r r' s s' p q = verdict_once r r' (p ∙ sym q)

pub count_limit_once : (κs : Lfts 0) (a : _) (r r' : _) (s s' : _) → count-limit.Post κs a r s → count-limit.Post κs a r' s' → r ≡ r'
count_limit_once κs a r r' s s' p q = p ∙ sym q

pub purse_limit_once : (κs : Lfts 0) (a : _) (r r' : _) (s s' : _) → purse_limit.Post κs a r s → purse_limit.Post κs a r' s' → r ≡ r'
purse_limit_once κs a r r' s s' p q = p ∙ sym q

pub U8FromRefusal-from_once : (κs : Lfts 0) (a : _) (r r' : _) (s s' : _) → U8-from-Refusal.Post κs a r s → U8-from-Refusal.Post κs a r' s' → r ≡ r'
U8FromRefusal-from_once κs a r r' s s' p q = p ∙ sym q

pub RightHeld-free_once : (κs : Lfts 0) (a : _) (r r' : _) (s s' : _) → Right-free.Post κs a r s → Right-free.Post κs a r' s' → r ≡ r'
RightHeld-free_once κs a r r' s s' p q = p ∙ sym q

pub RightHeld-is_named_once : (κs : Lfts 0) (a : _) (r r' : _) (s s' : _) → Right-is-named.Post κs a r s → Right-is-named.Post κs a r' s' → r ≡ r'
RightHeld-is_named_once κs a r r' s s' p q = p ∙ sym q

pub RightHeld-is_held_once : (κs : Lfts 0) (a : _) (r r' : _) (s s' : _) → Right-is-held.Post κs a r s → Right-is-held.Post κs a r' s' → r ≡ r'
RightHeld-is_held_once κs a r r' s s' p q = p ∙ sym q

pub Right-is_of_once : (κs : Lfts 0) (a : _) (r r' : _) (s s' : _) → Right-is-of.Post κs a r s → Right-is-of.Post κs a r' s' → r ≡ r'
Right-is_of_once κs a r r' s s' p q = p ∙ sym q

pub Right-fits_once : (κs : Lfts 0) (a : _) (r r' : _) (s s' : _) → Right-fits.Post κs a r s → Right-fits.Post κs a r' s' → r ≡ r'
Right-fits_once κs a r r' s s' p q = p ∙ sym q

pub Right-charged_once : (κs : Lfts 0) (a : _) (r r' : _) (s s' : _) → Right-charged.Post κs a r s → Right-charged.Post κs a r' s' → r ≡ r'
Right-charged_once κs a r r' s s' p q = p ∙ sym q

-- the right in its place
pub Right-free_if_of_once : (κs : Lfts 1) (a : _) (r r' : _) (s s' : _) → Right-free-if-of.Post κs a r s → Right-free-if-of.Post κs a r' s' → s.0.now ≡ s'.0.now
Right-free_if_of_once κs a r r' s s' p q = p ∙ sym q

pub Right-unless_of_once : (κs : Lfts 0) (a : _) (r r' : _) (s s' : _) → Right-unless-of.Post κs a r s → Right-unless-of.Post κs a r' s' → r ≡ r'
Right-unless_of_once κs a r r' s s' p q = p ∙ sym q
