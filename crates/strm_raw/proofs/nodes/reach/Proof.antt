-- The node to which the pointer leads is shown. Assumes `Logic`.
use mathlib.Core.Path.{◌≡◌, refl, ap, ◌∙◌}
use Prim.Native.Nat.{◌+◌, ◌*◌}
use native.Mathlib.Omega.{arith}
use mathlib.Core.List.{List, [], ◌∷◌}
use lib.ListN.{length, get_or}
use base.Fraction.{full_share}
use base.Fml.{ftrue, flft, fat}
use mir.Syntax.{ty_ptr, named}
use mir.MapTy.{inst_fn}
use mir.Val.{Val, vptr}
use contract.BorrowLft.{◌⊑◌}
use contract.Monad.{fact}
use contract.Running.{tables}
use types.Kit.{‵, raw, ◌⊛◌, at_ret, ◌$◌, ◌∵◌, !, qed, move, keep, drop, use1, split, join, fsplit, fjoin, feq_i, rewrite, suffices, done}
use types.Run.{enter, of_opd, addr, stop, first, blocks, exec, returns}
use types.ByLocal.{alloc_all, pass_all, free_all, look_at, get, through, sets, sets_last, take_at, give_at, env}
use denote.Builtin.{RefOf}
use denote.Exit.{yes}
use denote.Memory.{hidden_shr}
use denote.RattleType.{owns}
use denote.RawPtr.{Ptr, RawPtr, block_ptr, block_of, count_of, at_block, ptr_val, rawptr_vals, rawptr_Tells, rawptr_Lawful}
use denote.Ref.{ShrRef, shr_vals, shr_Tells}
use denote.Signature.{plain}
use denote.Steps.{nothing, heard}
use denote.Triple.Walked.{says, Stays, stay_dropped, walk_of, ends_at, Goes-dropped}
use Rattle.std.proofs.raw_atomic.Walks.{proved}
use Rattle.std_alloc.proofs.VecSteps.El.{El, args, el_x, el_items, el_ptr, R, Vr, sz}
use Rattle.std_alloc.proofs.VecSteps.Shapes.{after}
use Rattle.core.proofs.ptr.Rows.{hd}
use Rattle.strm_raw.specs.Links.{place, index_of, IsPlace}
use Rattle.strm_raw.proofs.Placed.{found-item, place_in}
use Rattle.strm_raw.proofs.Lent.{Lies, node_lent}
use Rattle.strm_raw.specs.contracts.nodes.reach as F
use Rattle.strm_raw.specs.contracts.nodes.reach.Key.{name as #self}
use Rattle.strm_raw.proofs.nodes.reach.Statement.{statement}
use Rattle.strm_raw.proofs.nodes.reach.Code as code

pub reach_spec : {M : Type 1} → statement M
reach_spec 𝓤 𝓛 𝓜 𝓡 wired T W LT LW g d dd met md =
    let E : El = record { row = T; laws = LT; al = record { row = W; laws = LW; g = g; d = d; drops = dd } } in
    let fn = inst_fn (args E) code.function in let T-ended = F.ended T W g d dd in
    let hs : Stays T-ended.signature.params T-ended.kept = (stay_dropped (RefOf (0 ∷ []) tt (plain (λ _. Vr E)) (λ _. tt)) yes, (stay_dropped (plain (λ _. RawPtr)) yes, tt)) in
    let c = F.clauses T W g d dd 𝓛 𝓜.mem 𝓡.returns in let 𝓣 = tables 𝓤 𝓛.H 𝓜 𝓡 𝓡.env in
    proved 𝓛 T-ended hs c 𝓜 𝓡 (Goes-dropped 𝓛 3 (RefOf (0 ∷ []) tt (plain (λ _. Vr E)) (λ _. tt)) yes (λ κs x w. refl), (Goes-dropped 𝓛 3 (plain (λ _. RawPtr)) yes (λ κs x w. refl), tt))
    (#self (args E)) fn (code.unfolded 𝓤 𝓛.H 𝓜 𝓡 wired (T, (W, tt)) d dd)
    (λ κs. (shr_vals, (rawptr_vals, tt))) (λ κs. (shr_Tells (named 0) κs.0 (Vr E), (rawptr_Tells, tt))) (λ κs qs bounds a gh are.
    let κ = κs.0 in let κ₁ = κs.1.0 in let κ₂ = κs.1.1.0 in let q = qs.0 in let v = a.0.now in let at = a.1.0 in
    let rb = a.0.ref_ptr.0 in let ro = a.0.ref_ptr.1 in let xs = el_items E v in let i = index_of (sz E) (el_ptr E v) at in
    let Asked : Type 0 = IsPlace (sz E) (el_ptr E v) at (length xs) in
    let y : (walk_of 𝓛 T-ended hs c).Ghost = ((κs, qs, bounds, a, (shr_vals a.0, (rawptr_vals at, tt))), gh) in
    let Post = (walk_of 𝓛 T-ended hs c).post y in
    qed 𝓛 (((‵ (flft κ q) ⊛ ‵ (flft κ₁ qs.1.0) ⊛ ‵ (flft κ₂ qs.1.1.0) ⊛ ‵ ftrue) ⊛ ‵ (owns (ShrRef (named 0) κ (Vr E) ∷ RawPtr ∷ []) a (shr_vals a.0, (rawptr_vals at, tt))))
    ∷ (raw (fact 𝓤 (κ₁ ⊑ T.lives)) ⊛ raw (fact 𝓤 (κ₂ ⊑ W.lives)) ⊛ raw (fact 𝓤 Asked)) ∷ []) ∵
    move ! (1 ∷ []) $ split ! $ drop ! $ split ! $ drop ! $ heard ! Asked (λ asked.
    let x₀ : el_x E = hd xs (let l = asked.0 in omega arith) in let x : el_x E = get_or xs i x₀ in
    let b = block_of (el_ptr E v) in let o = count_of (el_ptr E v) in
    split ! $ move ! (1 ∷ []) $ fsplit ! $ fsplit ! $ drop ! $
    use1 𝓛 (raw (fact 𝓤 (Lies E 𝓛 κ v)) ⊛ ‵ (hidden_shr (R E) κ x b (i * sz E + o))) (node_lent E 𝓛 κ v rb ro i x₀ asked.0) $ split ! $ heard ! (Lies E 𝓛 κ v) (λ lies. keep ! (0 ∷ 2 ∷ []) $
    let there : at ≡ block_ptr b (i * sz E + o) = asked.1 ∙ ap (λ (p : Ptr). place (sz E) p i) (at_block (el_ptr E v) lies.0) ∙ place_in (sz E) b o i in
    enter ! _ _ _ _ _ $ alloc_all ! (λ l. pass_all ! refl ((tt, tt), (rawptr_Lawful 𝓛).typed at _ refl) $
    -- [the node; the tokens]
    take_at ! 2 $ rewrite ! 0 (λ (p : Ptr). ‵ (fat full_share ty_ptr (l 2) 0 (ptr_val p))) there refl $ give_at ! 2 $
    first ! $ blocks ! $ sets_last ! (addr ! (through ! refl (stop !))) refl (tt, tt) $
    exec ! 𝓣.C 𝓣.Λ (env fn.locals l) (after 1 fn.body) (at_ret _ Post) $ sets ! (of_opd ! (get ! refl)) refl (tt, tt) $
    returns ! (look_at ! 0 refl) $ free_all ! refl $
    suffices ! _ (ends_at 𝓛 T-ended hs c y (vptr b (i * sz E + o)) (record { ref_ptr = (b, i * sz E + o); now = x }) (tt, (tt, tt)) (tt, (tt, tt))) $ says ! (found-item xs i x₀ asked.0) $
    feq_i ! (List Val) (vptr b (i * sz E + o) ∷ []) (vptr b (i * sz E + o) ∷ []) refl $ fjoin ! $ nothing ! $ nothing ! $ fjoin ! $ nothing ! $ fjoin ! $ join ! $ move ! (1 ∷ 0 ∷ []) $ join ! $ done !))))
