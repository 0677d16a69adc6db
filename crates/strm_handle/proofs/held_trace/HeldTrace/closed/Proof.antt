-- `closed` moves two values into fields, and owns nothing but them.
use Rattle.std.specs.Prelude.{None}
use lib.Dec.{T}
use lib.Dec.{T, lit<}
use mathlib.Core.Path.{refl, sym, subst}
use mathlib.Core.List.{List, [], ◌∷◌, ◌++◌}
use seplogic.Ra.Ura.{Ura}
use mir.Syntax.{ty_ptr}
use mir.Val.{Val, vstruct, vnil, vcons, has_ty, WT}
use base.Logic.{SProp, ent, emp, id⊢}
use base.Fml.{ftrue}
use prog.Memory.{Memory}
use prog.Routine.{Routine}
use prog.Wp.{WpFn, Tables}
use types.Logic.{Logic}
use contract.Monad.{Fun}
use contract.Running.{tables, tables_of}
use sound.WpLaws.{WpFn-mono}
use types.Kit.{Item, ‵, raw, ◌⊛◌, ◌$◌, ◌∵◌, !, qed, by, move, drop, use1, join, split, fsplit, fjoin, fpack, feq_l, feq_i, suffices, done}
use types.Part.{agg}
use types.Run.{no_more, and_then, returns, enter}
use types.ByLocal.{alloc_all, pass_all, free_all, look_at, get, sets}
use denote.Builtin.{RawPtr}
use denote.Exit.{yes}
use denote.RattleType.{RattleType, owns, Valss}
use denote.RawPtr.{Ptr, block_ptr, null_ptr, ptr_val}
use denote.Signature.{plain, type_at}
use denote.Steps.{nothing}
use denote.Struct.Struct.{within}
use denote.Struct.Owning.{shape}
use denote.Triple.Spec.{triple_of}
use denote.Triple.Table.{entered}
use denote.Triple.Walked.{says, Stays, stay_dropped, walk_of, ends_at, Goes-dropped, walk_Meets}
use Rattle.core.proofs.alloc.Calls.{Fits, handle_tells}
use Rattle.std_alloc.proofs.ResultValues.{and_tt}
use Rattle.core.proofs.alloc.Calls.{α}
use Rattle.std_alloc.proofs.BoxSteps.Form.{P, owning, handle, box_ty, box_typed}
use Rattle.std_heap.specs.contracts.Global as Heap
use Rattle.strm_handle.proofs.AsBox.{OfTrace as E}
use Rattle.strm_handle.specs.contracts.held_trace.HeldTrace.closed as F
use Rattle.strm_handle.specs.contracts.held_trace.HeldTrace.closed.Key.{name as #self}
use Rattle.strm_handle.proofs.held_trace.HeldTrace.closed.Statement as stated
use Rattle.strm_handle.proofs.held_trace.HeldTrace.closed.Code as code

abbrev A : RattleType
A = Heap.the_row

abbrev word_of : Ptr → Val → Val
word_of p hv = vstruct (vcons (ptr_val p) (vcons hv vnil))

typed : (p : Ptr) → T (has_ty ty_ptr (ptr_val p)) × WT (ptr_val p)
typed (block_ptr b o) = (tt, tt)
typed null_ptr = (tt, record { fits = lit< tt })

good_of : (p : Ptr) (hv : Val) → Fits E.al hv → T (has_ty (box_ty E) (word_of p hv)) × WT (word_of p hv)
good_of (block_ptr b o) hv fa = box_typed E hv b o fa
good_of null_ptr hv fa = (and_tt (has_ty (α E.al) hv) fa.0, (record { fits = lit< tt }, (fa.1, tt)))

abbrev stayed : Stays (F.ended).signature.params (F.ended).kept
stayed = (stay_dropped (plain (λ _. A)) yes, (stay_dropped (plain (λ _. RawPtr)) yes, tt))

module _ {M : Type 1} {𝓤 : Ura M} (𝓛 : Logic 𝓤) (at_mem : Memory → SProp 𝓤) (run : Routine → Fun 𝓤) (𝓣 : Tables 𝓤 𝓛.H) where
  open 𝓛 use {H}

  walk : (z : (walk_of 𝓛 F.ended stayed (F.clauses 𝓛 at_mem run)).Ghost)
      → ent 𝓤 ((walk_of 𝓛 F.ended stayed (F.clauses 𝓛 at_mem run)).pre z) (WpFn 𝓤 H 𝓣.C 𝓣.Λ code.function (z.0.4.0 ++ (z.0.4.1.0 ++ [])) ((walk_of 𝓛 F.ended stayed (F.clauses 𝓛 at_mem run)).post z))
  walk z =
      let a = z.0.3.0 in let p = z.0.3.1.0 in let us = z.0.4.0 in let vs = z.0.4.1.0 in let Post = (walk_of 𝓛 F.ended stayed (F.clauses 𝓛 at_mem run)).post z in
      let To = type_at (F.signature).result tt in
      let made : To.Denot = record { ptr = p; alloc = a; kept = None } in
      qed 𝓛 ((‵ ftrue ⊛ ‵ (owns (P E ∷ RawPtr ∷ []) (a, (p, tt)) (us, (vs, tt)))) ∷ raw (emp 𝓤) ∷ []) ∵ split ! $ drop ! $ fsplit ! $
      handle_tells E.al ! a us (λ hv ea fa. move ! (1 ∷ []) $ fsplit ! $ feq_l ! (λ ev. drop ! $
      let Γ : List (Item 𝓤) = ‵ (handle E a hv) ∷ raw (emp 𝓤) ∷ [] in
      let w = word_of p hv in
      let good : T (has_ty (box_ty E) w) × WT w = good_of p hv fa in
      by ! (subst (λ (ws : List Val). ent 𝓤 (types.Kit.⋆ 𝓛 Γ) (WpFn 𝓤 H 𝓣.C 𝓣.Λ code.function (ws ++ (vs ++ [])) Post)) (sym ea)
      (subst (λ (ws : List Val). ent 𝓤 (types.Kit.⋆ 𝓛 Γ) (WpFn 𝓤 H 𝓣.C 𝓣.Λ code.function (hv ∷ (ws ++ [])) Post)) (sym ev)
      (qed 𝓛 Γ ∵ enter ! 𝓣.C 𝓣.Λ code.function (hv ∷ ptr_val p ∷ []) _ $ alloc_all ! (λ ls. pass_all ! refl (fa, (typed p, tt)) $
      sets ! (agg ! (and_then ! (get ! refl) (and_then ! (get ! refl) (no_more !)))) refl good $ returns ! (look_at ! 0 refl) $ free_all ! refl $
      nothing ! $ nothing ! $ move ! (2 ∷ 0 ∷ []) $ fjoin ! $ feq_i ! (List Val) (ptr_val p ∷ []) (ptr_val p ∷ []) refl $ fjoin ! $ feq_i ! (List Val) (w ∷ []) (w ∷ []) refl $ fjoin ! $
      fpack ! (Valss (RawPtr ∷ P E ∷ [])) (within (shape (owning E)) (p, (a, tt)) (w ∷ [])) (ptr_val p ∷ [], (hv ∷ [], tt)) $ fjoin ! $ use1 𝓛 (‵ (To.own_val made (w ∷ []))) (id⊢ 𝓤 _) $ move ! (1 ∷ []) $ drop ! $
      suffices ! _ (ends_at 𝓛 F.ended stayed (F.clauses 𝓛 at_mem run) z w made (tt, (tt, tt)) (tt, (tt, tt))) $ says ! refl $
      nothing ! $ nothing ! $ fjoin ! $ nothing ! $ fjoin ! $ join ! $ nothing ! $ join ! $ done !))))))

pub closed_spec : {M : Type 1} → stated.statement M
unfolding tables_of
closed_spec 𝓤 𝓛 𝓜 𝓡 wired =
    let 𝓣 : Tables 𝓤 𝓛.H = tables_of 𝓤 𝓛.H 𝓜 (tables 𝓤 𝓛.H 𝓜 𝓡 𝓡.env) in
    entered 𝓤 𝓛.H (triple_of 𝓛 F.signature (F.spec 𝓛 𝓜.mem 𝓡.returns)) 𝓣.C 𝓣.Λ #self code.function (code.unfolded 𝓤 𝓛.H 𝓜 𝓡 wired)
    (walk_Meets 𝓛 F.ended stayed (Goes-dropped 𝓛 0 (plain (λ _. A)) yes (λ κs x f. refl), (Goes-dropped 𝓛 0 (plain (λ _. RawPtr)) yes (λ κs x f. refl), tt)) (F.clauses 𝓛 𝓜.mem 𝓡.returns) (WpFn 𝓤 𝓛.H 𝓣.C 𝓣.Λ code.function) (WpFn-mono 𝓤 𝓛.H 𝓛.laws 𝓣 code.function)
    (walk 𝓛 𝓜.mem 𝓡.returns 𝓣))
