-- A node's place is counted from where the nodes begin. Assumes `Logic`.
use mathlib.Core.Path.{◌≡◌, refl, sym, ap, subst, ◌∙◌}
use Prim.Native.Nat.{◌+◌, ◌*◌, ◌<◌, ◌≤◌, ◌^◌}
use native.Mathlib.Omega.{arith}
use mathlib.Core.List.{List, [], ◌∷◌}
use lib.ListN.{length, get_or}
use base.Fraction.{full_share}
use base.Fml.{ftrue, flft, fat}
use mir.Syntax.{w64, ty_ptr, named}
use mir.MapTy.{inst_fn}
use mir.Val.{Val, vptr}
use contract.BorrowLft.{◌⊑◌}
use contract.Monad.{fact}
use contract.Running.{tables}
use types.Kit.{‵, raw, ◌⊛◌, at_ret, ◌$◌, ◌∵◌, !, qed, move, keep, drop, use1, split, join, fsplit, fjoin, feq_i, rewrite, suffices, done}
use types.Run.{enter, of_opd, bin, size_lit, first, blocks, exec, returns}
use types.ByLocal.{alloc_all, pass_all, free_all, look_at, get, sets, sets_last, take_at, give_at, env}
use denote.Builtin.{RefOf, usize}
use denote.Exit.{yes}
use denote.Memory.{hidden_shr}
use denote.Plain.{uint_vals, uint_Tells}
use denote.RattleType.{owns}
use denote.RawPtr.{Ptr, RawPtr, InBlock, block_ptr, block_of, count_of, at_block, ptr_val, rawptr_vals, rawptr_Tells, rawptr_Lawful}
use denote.Ref.{ShrRef, shr_vals, shr_Tells}
use denote.Signature.{plain}
use denote.Steps.{nothing, heard}
use denote.Triple.Walked.{Stays, stay_dropped, walk_of, ends_at, Goes-dropped}
use Rattle.std.proofs.raw_atomic.Walks.{proved}
use Rattle.std_alloc.proofs.VecSteps.El.{El, args, el_x, el_cap, el_items, el_ok, el_ptr, R, Vr, sz, wider}
use Rattle.std_alloc.proofs.VecSteps.Shapes.{after}
use Rattle.core.proofs.mem.Facts.{says_two}
use Rattle.core.proofs.ptr.Rows.{hd, one_below, times_below}
use Rattle.strm_raw.specs.Links.{place}
use Rattle.strm_raw.proofs.Placed.{place_in}
use Rattle.strm_raw.proofs.Lent.{Lies, node_lent}
use Rattle.strm_raw.specs.contracts.nodes.place_of as F
use Rattle.strm_raw.specs.contracts.nodes.place_of.Key.{name as #self}
use Rattle.strm_raw.proofs.nodes.place_of.Statement.{statement}
use Rattle.strm_raw.proofs.nodes.place_of.Code as code

pub place_of_spec : {M : Type 1} → statement M
place_of_spec 𝓤 𝓛 𝓜 𝓡 wired T W LT LW g d dd met md =
    let E : El = record { row = T; laws = LT; al = record { row = W; laws = LW; g = g; d = d; drops = dd } } in
    let fn = inst_fn (args E) code.function in let T-ended = F.ended T W g d dd in
    let hs : Stays T-ended.signature.params T-ended.kept = (stay_dropped (RefOf (0 ∷ []) tt (plain (λ _. Vr E)) (λ _. tt)) yes, (stay_dropped (plain (λ _. RawPtr)) yes, (stay_dropped (plain (λ _. usize)) yes, tt))) in
    let c = F.clauses T W g d dd 𝓛 𝓜.mem 𝓡.returns in let 𝓣 = tables 𝓤 𝓛.H 𝓜 𝓡 𝓡.env in
    proved 𝓛 T-ended hs c 𝓜 𝓡 (Goes-dropped 𝓛 3 (RefOf (0 ∷ []) tt (plain (λ _. Vr E)) (λ _. tt)) yes (λ κs x w. refl), (Goes-dropped 𝓛 3 (plain (λ _. RawPtr)) yes (λ κs x w. refl), (Goes-dropped 𝓛 3 (plain (λ _. usize)) yes (λ κs x w. refl), tt)))
    (#self (args E)) fn (code.unfolded 𝓤 𝓛.H 𝓜 𝓡 wired (T, (W, tt)) d dd)
    (λ κs. (shr_vals, (rawptr_vals, (uint_vals w64, tt)))) (λ κs. (shr_Tells (named 0) κs.0 (Vr E), (rawptr_Tells, (uint_Tells w64, tt)))) (λ κs qs bounds a gh are.
    let κ = κs.0 in let κ₁ = κs.1.0 in let κ₂ = κs.1.1.0 in let q = qs.0 in let v = a.0.now in let base = a.1.0 in let i = a.1.1.0 in
    let rb = a.0.ref_ptr.0 in let ro = a.0.ref_ptr.1 in let xs = el_items E v in let s = sz E in
    let y : (walk_of 𝓛 T-ended hs c).Ghost = ((κs, qs, bounds, a, (shr_vals a.0, (rawptr_vals base, (uint_vals w64 i, tt)))), gh) in
    let Post = (walk_of 𝓛 T-ended hs c).post y in
    qed 𝓛 (((‵ (flft κ q) ⊛ ‵ (flft κ₁ qs.1.0) ⊛ ‵ (flft κ₂ qs.1.1.0) ⊛ ‵ ftrue) ⊛ ‵ (owns (ShrRef (named 0) κ (Vr E) ∷ RawPtr ∷ usize ∷ []) a (shr_vals a.0, (rawptr_vals base, (uint_vals w64 i, tt)))))
    ∷ (raw (fact 𝓤 (κ₁ ⊑ T.lives)) ⊛ raw (fact 𝓤 (κ₂ ⊑ W.lives)) ⊛ raw (fact 𝓤 (base ≡ el_ptr E v)) ⊛ raw (fact 𝓤 (i < length xs))) ∷ []) ∵
    move ! (1 ∷ []) $ split ! $ drop ! $ split ! $ drop ! $ split ! $ heard ! (base ≡ el_ptr E v) (λ is. heard ! (i < length xs) (λ within.
    let x₀ : el_x E = hd xs (omega arith) in
    let b = block_of (el_ptr E v) in let o = count_of (el_ptr E v) in
    split ! $ move ! (1 ∷ []) $ fsplit ! $ fsplit ! $ drop ! $
    use1 𝓛 (raw (fact 𝓤 (Lies E 𝓛 κ v)) ⊛ ‵ (hidden_shr (R E) κ (get_or xs i x₀) b (i * s + o))) (node_lent E 𝓛 κ v rb ro i x₀ within) $ split ! $ heard ! (Lies E 𝓛 κ v) (λ lies. keep ! (2 ∷ []) $
    let begins : base ≡ block_ptr b o = is ∙ at_block (el_ptr E v) lies.0 in
    let le : i ≤ el_cap E v = let e = (el_ok E v).0 in let l = (el_ok E v).1 in omega arith in
    let some : 0 < el_cap E v = let e = (el_ok E v).0 in let l = (el_ok E v).1 in omega arith in
    let tiny = wider s (one_below (el_cap E v) s (2 ^ 63) some lies.1) in let fits = wider (i * s) (times_below i (el_cap E v) s (2 ^ 63) le lies.1) in
    let result : block_ptr b (i * s + o) ≡ place s base i = sym (ap (λ (p : Ptr). place s p i) begins ∙ place_in s b o i) in
    enter ! _ _ _ _ _ $ alloc_all ! (λ l. pass_all ! refl ((tt, tt), (((rawptr_Lawful 𝓛).typed base _ refl).0, ((tt, record { fits = are.1.1.0.1 }), tt))) $
    take_at ! 2 $ rewrite ! 0 (λ (p : Ptr). ‵ (fat full_share ty_ptr (l 2) 0 (ptr_val p))) begins refl $ give_at ! 2 $
    first ! $ blocks ! $ sets ! (bin ! (get ! refl) (size_lit ! (record { fits = tiny })) (record { fits = fits })) refl (tt, record { fits = fits }) $
    sets_last ! (bin ! (get ! refl) (get ! refl) tt) refl (tt, tt) $
    exec ! 𝓣.C 𝓣.Λ (env fn.locals l) (after 1 fn.body) (at_ret _ Post) $ sets ! (of_opd ! (get ! refl)) refl (tt, tt) $
    returns ! (look_at ! 0 refl) $ free_all ! refl $
    suffices ! _ (ends_at 𝓛 T-ended hs c y (vptr b (i * s + o)) (block_ptr b (i * s + o)) (tt, (tt, (tt, tt))) (tt, (tt, (tt, tt)))) $ says_two ! (result, subst InBlock (sym begins) tt) $
    feq_i ! (List Val) (vptr b (i * s + o) ∷ []) (vptr b (i * s + o) ∷ []) refl $ nothing ! $ nothing ! $ fjoin ! $ nothing ! $ fjoin ! $ nothing ! $ fjoin ! $ join ! $ move ! (1 ∷ 0 ∷ []) $ join ! $ done !)))))
