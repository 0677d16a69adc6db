-- It is made of nothing, with no entry.
use mathlib.Core.Path.{refl}
use mathlib.Core.List.{[], ◌∷◌}
use base.Fml.{ftrue}
use mir.Val.{vstruct, vcons, vnil}
use types.Kit.{‵, ◌⊛◌, ◌$◌, ◌∵◌, !, qed, drop, use0, fjoin, suffices, frame, done}
use types.Part.{agg}
use types.Run.{enter, and_then, no_more, returns}
use types.ByLocal.{alloc_all, pass_all, free_all, look_at, get, sets}
use denote.Shadow.{makes_shadow}
use denote.Steps.{nothing}
use denote.Struct.Owning.{shape}
use denote.Struct.Struct.{Struct}
use denote.Triple.Walked.{walk_of, says, ends_at}
use Rattle.std.proofs.raw_atomic.Walks.{proved}
use Rattle.strm_pair.specs.contracts.past.Past.{the_type}
use Rattle.strm_pair.specs.declared.past.Past.{Past}
use Rattle.strm_pair.specs.contracts.past.Past.none as F
use Rattle.strm_pair.specs.contracts.past.Past.none.Key.{name as #self}
use Rattle.strm_pair.proofs.past.Past.none.Statement.{statement}
use Rattle.strm_pair.proofs.past.Past.none.Code as code

abbrev made : Past
made = record { marker = record {}; entries = [] }

pub none_spec : {M : Type 1} → statement M
none_spec 𝓤 𝓛 𝓜 𝓡 wired =
    let c = F.clauses 𝓛 𝓜.mem 𝓡.returns in
    proved 𝓛 F.ended tt c 𝓜 𝓡 tt #self code.function (code.unfolded 𝓤 𝓛.H 𝓜 𝓡 wired) (λ κs. tt) (λ κs. tt) (λ κs qs bounds a g are.
    let y : (walk_of 𝓛 F.ended tt c).Ghost = ((κs, qs, bounds, a, tt), g) in
    let bare = vstruct (vcons (vstruct vnil) vnil) in let Bare = Struct (shape the_type) in
    qed 𝓛 ((‵ ftrue ⊛ ‵ ftrue) ∷ ‵ ftrue ∷ []) ∵ drop ! $ drop ! $ enter ! _ _ _ _ _ $ alloc_all ! (λ l. pass_all ! refl tt $
    sets ! (agg ! (no_more !)) refl (tt, tt) $ sets ! (agg ! (and_then ! (get ! refl) (no_more !))) refl (tt, (tt, tt)) $
    returns ! (look_at ! 0 refl) $ free_all ! refl $
    suffices ! _ (ends_at 𝓛 F.ended tt c y bare made tt tt) $ says ! refl $ nothing ! $ frame ! $ nothing ! $ frame ! $
    nothing ! $ use0 𝓛 (‵ (Bare.own_val (tt, tt) (bare ∷ []))) (makes_shadow 𝓛 (Bare.own_val (tt, tt) (bare ∷ [])) (λ vss. (tt, ((λ uss. (tt, tt)), tt))) ((vstruct vnil ∷ [], tt), (refl, ((tt, (refl, tt)), tt)))) $ fjoin ! $ done !))
