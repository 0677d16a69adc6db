-- The body is empty. The borrow is opened, and closed at another roster.
use mathlib.Core.Path.{refl}
use mathlib.Core.List.{[], ◌∷◌}
use base.Logic.{id⊢}
use base.Fml.{ftrue, flft}
use mir.Syntax.{w64, named}
use mir.Val.{vunit}
use contract.Running.{tables}
use types.Kit.{‵, ◌⊛◌, ◌$◌, ◌∵◌, !, qed, move, keep, use1, split, join, fsplit, fsplit3, feq_i, suffices, frame, group, done}
use types.Run.{enter, of_opd, unit_lit, returns}
use types.ByLocal.{alloc_all, pass_all, free_all, look_at, sets}
use denote.Builtin.{usize}
use denote.Exit.{yes}
use denote.Plain.{uint_vals, uint_Tells}
use denote.RattleType.{owns}
use denote.RawPtr.{RawPtr, rawptr_vals, rawptr_Tells, rawptr_Lawful}
use denote.Ref.{MutRef, mut_vals, mut_Tells}
use denote.Signature.{plain}
use denote.Steps.{nothing, opens, closes}
use denote.Triple.Walked.{says, Stays, stay_ref, stay_dropped, walk_of, ends_at, Goes-ref, Goes-dropped}
use Rattle.std.proofs.raw_atomic.Walks.{proved}
use Rattle.strm_raw.specs.contracts.ledger.Ledger.{the_row as R}
use Rattle.strm_raw.specs.contracts.ledger.Ledger.note as F
use Rattle.strm_raw.specs.contracts.ledger.Ledger.note.Key.{name as #self}
use Rattle.strm_raw.proofs.ledger.Ledger.note.Statement.{statement}
use Rattle.strm_raw.proofs.ledger.Ledger.note.Code as code

abbrev stayed : Stays F.ended.signature.params F.ended.kept
stayed = (stay_ref (0 ∷ []) tt (plain (λ _. R)), (stay_dropped (plain (λ _. RawPtr)) yes, (stay_dropped (plain (λ _. RawPtr)) yes, (stay_dropped (plain (λ _. usize)) yes, (stay_dropped (plain (λ _. usize)) yes, tt)))))

pub note_spec : {M : Type 1} → statement M
note_spec 𝓤 𝓛 𝓜 𝓡 wired =
    let c = F.clauses 𝓛 𝓜.mem 𝓡.returns in let 𝓣 = tables 𝓤 𝓛.H 𝓜 𝓡 𝓡.env in
    let pointer = Goes-dropped 𝓛 1 (plain (λ _. RawPtr)) yes (λ κs x w. refl) in let number = Goes-dropped 𝓛 1 (plain (λ _. usize)) yes (λ κs x w. refl) in
    proved 𝓛 F.ended stayed c 𝓜 𝓡 (Goes-ref 𝓛 1 0 tt (plain (λ _. R)), (pointer, (pointer, (number, (number, tt)))))
    #self code.function (code.unfolded 𝓤 𝓛.H 𝓜 𝓡 wired)
    (λ κs. (mut_vals, (rawptr_vals, (rawptr_vals, (uint_vals w64, (uint_vals w64, tt)))))) (λ κs. (mut_Tells (named 0) κs.0 R, (rawptr_Tells, (rawptr_Tells, (uint_Tells w64, (uint_Tells w64, tt)))))) (λ κs qs bounds a to are.
    let b = a.0.ref_ptr.0 in let o = a.0.ref_ptr.1 in let h' = record a.0.now { roster = to a.0.now.roster } in
    let y : (walk_of 𝓛 F.ended stayed c).Ghost = ((κs, qs, bounds, a, (mut_vals a.0, (rawptr_vals a.1.0, (rawptr_vals a.1.1.0, (uint_vals w64 a.1.1.1.0, (uint_vals w64 a.1.1.1.1.0, tt)))))), to) in
    qed 𝓛 (((‵ (flft κs.0 qs.0) ⊛ ‵ ftrue) ⊛ ‵ (owns (MutRef (named 0) κs.0 R ∷ RawPtr ∷ RawPtr ∷ usize ∷ usize ∷ []) a y.0.4)) ∷ ‵ ftrue ∷ []) ∵
    split ! $ split ! $ move ! (2 ∷ []) $ fsplit ! $ keep ! (0 ∷ 2 ∷ []) $ enter ! _ _ _ _ _ $
    alloc_all ! (λ l. pass_all ! refl ((tt, tt), (((rawptr_Lawful 𝓛).typed a.1.0 _ refl).0, (((rawptr_Lawful 𝓛).typed a.1.1.0 _ refl).0, ((tt, record { fits = are.1.1.1.0.1 }), ((tt, record { fits = are.1.1.1.1.0.1 }), tt))))) $
    fsplit3 ! $ move ! (1 ∷ 2 ∷ 3 ∷ []) $ opens ! tt R b o (λ us. sets ! (of_opd ! (unit_lit !)) refl (tt, tt) $
    move ! (1 ∷ []) $ use1 𝓛 (‵ (R.own_val h' us)) (id⊢ 𝓤 _) $ move ! (1 ∷ 0 ∷ []) $ closes ! tt R h' us b o $
    returns ! (look_at ! 0 refl) $ free_all ! refl $ move ! (3 ∷ []) $
    suffices ! _ (ends_at 𝓛 F.ended stayed c y vunit tt (h', (tt, (tt, (tt, (tt, tt))))) (tt, (tt, (tt, (tt, (tt, tt)))))) $ says ! refl $
    group ! 3 $ nothing ! $ nothing ! $ join ! $ nothing ! $ join ! $ nothing ! $ join ! $ nothing ! $ join ! $ move ! (1 ∷ 0 ∷ []) $ join ! $
    nothing ! $ move ! (2 ∷ 0 ∷ []) $ join ! $ frame ! $ frame ! $ feq_i ! _ (vunit ∷ []) _ refl $ done !)))
