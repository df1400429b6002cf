-- `keybook_call` meets its contract: a walk of its MIR by hand. The book is lent to `call_in_place` for a lifetime made for the call, and lies there again once it
-- is over; what the other three parameters own, and their lifetimes' tokens, `call_in_place` gets as they came.
use Rattle.std.proofs.Common.{◌≡◌, ℕ, List, [], ◌∷◌, ◌++◌, refl, ap}
use Rattle.std.proofs.raw_atomic.Walks.{proved}
use base.Fraction.{full_share}
use base.Logic.{emp, id⊢}
use base.Fml.{GName, flft, flent, fres}
use mir.Syntax.{named}
use mir.Val.{Val, vunit, vptr}
use contract.Monad.{fact, fact_i}
use contract.Running.{tables}
use prog.Wp.{WpFn}
use types.Kit.{‵, raw, ◌⊛◌, some, later, prop, ◌$◌, ◌∵◌, !, qed, done, move, keep, drop, use0, use1, use2, use3, split, join, fsplit, fjoin, feq_i, feq_l, pick, await, regoal, rewrite, suffices, group, frame}
use types.Part.{whole, sub, agg}
use types.Run.{enter, of_opd, unit_lit, and_then, no_more, stop, fld, hop, from, addr, returns}
use types.ByLocal.{alloc_all, pass_all, free_all, look_at, look_in_at, get, get_in, through, sets, lands_as}
use types.SemTy.{Body}
use types.Tokens.{lft_new, lft_end}
use denote.Array.{Array}
use denote.Builtin.{u8, unit}
use denote.Exit.{Kept, yes, left as told}
use denote.Lend.{lends_ref, ref_back}
use denote.Memory.{mem, part_at}
use denote.RattleType.{owns}
use denote.RawPtr.{Ptr, RawPtr, block_ptr, lies_at, in_a_block, rawptr_vals, rawptr_Tells}
use denote.Ref.{MutBor, MutRef, mut_vals, mut_Tells}
use denote.Signature.{Slot}
use denote.Slice.{ShrSlice, MutSlice, shr_slice_vals, mut_slice_vals, shr_slice_Tells, mut_slice_Tells}
use denote.Steps.{nothing, heard, only}
use denote.Triple.Call.{calls_at}
use denote.Triple.Clauses.{Lasts, lasts}
use denote.Triple.Entry.{alive}
use denote.Triple.Spec.{triple_of}
use denote.Triple.Table.{framed}
use denote.Triple.Walked.{Stay, Stays, walk_of, says, ends_at}
use Rattle.book.specs.declared.Book.{Book}
use Rattle.book.specs.contracts.Book.{the_row as R}
use Rattle.book.specs.Pages.{pages, bound}
use Rattle.rules.specs.Calls.{After}
use Rattle.rules.specs.Replies.{reply_bytes}
use Rattle.rules.specs.Rules.{call}
use Rattle.card.specs.contracts.call_in_place as g
use Rattle.card.specs.contracts.keybook_call as f
use Rattle.card.proofs.call_in_place.Met.{met}
use Rattle.card.proofs.keybook_call.Statement.{statement}
use Rattle.card.proofs.keybook_call.Code as code

-- at exit the function has of a parameter what says its last value, as `call_in_place` hands it back
abbrev has_told : {n : ℕ} (s : Slot n) (k : Kept) → Stay s k
has_told s k = record { fit = λ κs x f. Unit {0}; has = λ κs x f vs. told ((s.row κs).exit k) x f }

abbrev stayed : Stays f.ended.signature.params f.ended.kept
stayed = (has_told _ yes, (has_told _ yes, (has_told _ yes, (has_told _ yes, tt))))

pub keybook_call_spec : {M : Type 1} → statement M
keybook_call_spec 𝓤 𝓛 𝓜 𝓡 wired =
    let c = f.clauses 𝓛 𝓜.mem 𝓡.returns in let W = walk_of 𝓛 f.ended stayed c in let 𝓣 = tables 𝓤 𝓛.H 𝓜 𝓡 𝓡.env in
    proved 𝓛 f.ended stayed c 𝓜 𝓡
    ((λ κs x w vs fit. 𝓛.laws.⇛_intro _), ((λ κs x w vs fit. 𝓛.laws.⇛_intro _), ((λ κs x w vs fit. 𝓛.laws.⇛_intro _), ((λ κs x w vs fit. 𝓛.laws.⇛_intro _), tt))))
    f.Key.name code.function (code.unfolded 𝓤 𝓛.H 𝓜 𝓡 wired)
    (λ κs. (rawptr_vals, (shr_slice_vals, (mut_slice_vals, (mut_vals, tt)))))
    (λ κs. (rawptr_Tells, (shr_slice_Tells (named 0) κs.0 u8, (mut_slice_Tells (named 1) κs.1.0 u8, (mut_Tells (named 2) κs.1.1.0 (Array u8 14), tt)))))
    (λ κs qs bounds a held are.
    let bytes = a.1.0 in let key = a.1.1.0 in let reply = a.1.1.1.0 in
    let words : List Val × (List Val × (List Val × Unit {0})) = (shr_slice_vals bytes, (mut_slice_vals key, (mut_vals reply, tt))) in
    let y : Ptr → W.Ghost = λ p. ((κs, qs, bounds, (p, a.1), (rawptr_vals p, words)), held) in
    let Rest = owns (ShrSlice (named 0) κs.0 u8 ∷ MutSlice (named 1) κs.1.0 u8 ∷ MutRef (named 2) κs.1.1.0 (Array u8 14) ∷ []) a.1 words in
    let toks = alive 𝓛 f.signature κs qs in
    qed 𝓛 ((raw toks ⊛ (‵ (RawPtr.own_val a.0 (rawptr_vals a.0)) ⊛ ‵ Rest)) ∷ ‵ (lies_at R full_share a.0 held) ∷ []) ∵
    split ! $ move ! (1 ∷ []) $ split ! $ drop ! $ move ! (2 ∷ []) $
    in_a_block ! a.0 (λ p. lies_at R full_share p held) (id⊢ 𝓤 _) (λ b o e.
    regoal ! (λ p. prop (WpFn 𝓤 𝓛.H 𝓣.C 𝓣.Λ code.function (rawptr_vals p ++ (shr_slice_vals bytes ++ (mut_slice_vals key ++ (mut_vals reply ++ [])))) (W.post (y p)))) e refl $
    enter ! _ _ _ _ _ $ alloc_all ! (λ l. pass_all ! refl
    ((tt, tt), ((tt, (tt, (record { fits = are.1.0.0.1.0 }, tt))), ((tt, (tt, (record { fits = are.1.1.0.0.1.0 }, tt))), ((tt, tt), tt)))) $
    lft_new ! tt (λ α. move ! (1 ∷ []) $
    use1 𝓛 (later (some (λ (γ : GName). ‵ ((MutRef (named 0) (α ∷ []) R).own_val (record { ref_ptr = (b, o); ghost_name = γ; now = held }) (vptr b o ∷ []))
    ⊛ ‵ (flent (α ∷ []) (Body (mem R) b o γ))))) (lends_ref 𝓛 R (named 0) (α ∷ []) held b o) $ await ! tt $ pick ! (λ γ. split ! $
    -- [the loan; the lender's part; the token of α; what the other three own; their tokens; the locals]
    let G = triple_of 𝓛 g.signature (g.spec 𝓛 𝓜.mem 𝓡.returns) in
    let lent : MutBor Book = record { ref_ptr = (b, o); ghost_name = γ; now = held } in
    let z : G.Ghost = (((α ∷ [], κs), (full_share, qs), bounds, (lent, a.1), (vptr b o ∷ [], words)), tt) in
    let next : After = call (pages held) bytes.now key.now in
    sets ! (addr ! (through ! refl (stop !))) refl (tt, tt) $
    sets ! (addr ! (from ! (fld ! refl (hop ! (look_in_at ! 3 (sub ! 0 refl (whole !))) (stop !))))) refl (tt, tt) $
    sets ! (agg ! (and_then ! (get ! refl) (and_then ! (get_in ! (fld ! refl (stop !)) (sub ! 1 refl (whole !))) (no_more !)))) refl
    (tt, (tt, (record { fits = are.1.1.0.0.1.0 }, tt))) $
    sets ! (addr ! (through ! refl (stop !))) refl (tt, tt) $
    move ! (2 ∷ 4 ∷ []) $ join ! $ move ! (1 ∷ 3 ∷ []) $ join ! $ move ! (1 ∷ 0 ∷ []) $ join ! $
    nothing ! $ move ! (1 ∷ 0 ∷ []) $ use2 𝓛 (raw (G.pre z)) (id⊢ 𝓤 _) $
    calls_at ! (framed 𝓤 𝓛.H 𝓜 (tables 𝓤 𝓛.H 𝓜 𝓡 𝓡.env)) G (met 𝓤 𝓛 𝓜 𝓡 (code.calls-card::call_in_place 𝓡.env wired)) z
    (and_then ! (get ! refl) (and_then ! (get ! refl) (and_then ! (get ! refl) (and_then ! (get ! refl) (no_more !))))) (λ v.
    use1 𝓛 (later (some (λ (u : Unit {0}). ((‵ (flft (α ∷ []) full_share) ⊛ raw toks) ⊛ ‵ (unit.own_val u (v ∷ []))) ⊛
    some (λ (ws : Lasts g.ended z.0.0 z.0.3). ‵ (lasts g.ended z.0.0 z.0.3 ws) ⊛
    (raw (fact 𝓤 (pages ws.0 ≡ next.book)) ⊛ (raw (fact 𝓤 (ws.1.1.0 ≡ next.buffer)) ⊛ raw (fact 𝓤 (ws.1.1.1.0 ≡ reply_bytes next.reply)))))))) (id⊢ 𝓤 _) $
    await ! tt $ pick ! (λ u. split ! $ split ! $ split ! $ lft_end ! tt $ move ! (2 ∷ []) $ feq_l ! (λ is_unit.
    lands_as ! (ap only is_unit) refl (tt, tt) $
    move ! (2 ∷ []) $ pick ! (λ ws. split ! $ move ! (1 ∷ []) $ split ! $ heard ! _ (λ is_book. split ! $ heard ! _ (λ is_key. heard ! _ (λ is_reply. fsplit ! $ fsplit ! $
    -- [the loan's last value; its borrow; what says the others' last values; α is over; the tokens; the lender's part; the locals]
    rewrite ! 0 (λ (d : Book). ‵ (fres γ (R.coded.code d))) (ap bound is_book) refl $
    move ! (3 ∷ 5 ∷ 0 ∷ []) $ use3 𝓛 (later (‵ (part_at R full_share (bound next.book) b o))) (ref_back 𝓛 R (α ∷ []) γ (bound next.book) b o) $ await ! tt $
    sets ! (of_opd ! (unit_lit !)) refl (tt, tt) $
    returns ! (look_at ! 0 refl) $ free_all ! refl $ keep ! (2 ∷ 0 ∷ 3 ∷ []) $
    suffices ! _ (ends_at 𝓛 f.ended stayed c (y (block_ptr b o)) vunit tt (tt, (tt, (ws.1.1.0, (ws.1.1.1.0, tt)))) (tt, (tt, (tt, (tt, tt))))) $
    nothing ! $ fjoin ! $ feq_i ! _ (vunit ∷ []) _ refl $ move ! (3 ∷ 1 ∷ 0 ∷ []) $ group ! 3 $ frame ! $ frame ! $
    says ! is_reply $ use0 𝓛 (raw (fact 𝓤 (ws.1.1.0 ≡ next.buffer))) (fact_i 𝓤 _ (emp 𝓤) is_key) $ done !))))))))))))
