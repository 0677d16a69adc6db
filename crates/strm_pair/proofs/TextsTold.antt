-- What a text of a restorable state tells of its streams.
use Rattle.strm_pair.proofs.Prelude.{◌≡◌, List, [], ◌∷◌, map, refl, sym, subst, ◌∙◌, length-map, Option, None, Some, is_some}
use Rattle.strm_pair.specs.Prelude.{MODULES, Openness, Side, GoodStream, EachOnce, ModuleText, StreamText, module_now}
use Rattle.std.specs.Prelude.{◌≤◌}
use Rattle.std.specs.List.{AllByRecursion}
use Rattle.strm_laws.specs.Restorable.{GoodKind, GoodModule}
use Rattle.strm_laws.specs.Within.{IsWithin}
use Rattle.strm_image.specs.declared.modules.KindText.{KindText}
use Rattle.strm_image.specs.declared.modules.KindText.TheVariants as texts
use Rattle.strm_image.specs.declared.modules.QueuesText.{QueuesText}
use Rattle.strm_image.specs.ModuleTexts.{kind_now, own_pair_now}
use Rattle.strm_pair.specs.Laying.{IsStreamText, stream_now}
use Rattle.strm_pair.specs.Placing.{IsKindText, IsModuleText}
use Rattle.strm_pair.proofs.EndsMade.{names-same}

kind-told : (x : KindText) → GoodKind (kind_now x) → IsKindText x
kind-told (texts.Ldterm l) good = record {
  column = good.column;
  line = good.line;
}
kind-told (texts.Ptem p) good = tt
kind-told texts.Pckt good = tt
kind-told (texts.Own o) good = good.few

has-told : (queues : Option QueuesText) → is_some (own_pair_now queues) ≡ is_some queues
has-told None = refl
has-told (Some q) = refl

module-told : (m : ModuleText) → GoodModule (module_now m) → IsModuleText m
module-told m good = record { kind = kind-told m.kind good.kind; has = sym (has-told m.queues) ∙ good.has }

each-told : (ms : List ModuleText) → AllByRecursion GoodModule (map module_now ms) → AllByRecursion IsModuleText ms
each-told [] good = tt
each-told (m ∷ ms) good = (module-told m good.0, each-told ms good.1)

pub stream-told : (side : Side) (how : Openness) (t : StreamText) → GoodStream side (stream_now how t) → IsWithin (stream_now how t).head → IsStreamText t
stream-told side how t good within = record {
  head = good.head.queue;
  modules = record {
    few = subst (λ n. n ≤ MODULES) (length-map t.modules.items module_now) good.modules.few;
    each = each-told t.modules.items good.modules.each;
    names = subst EachOnce (sym (names-same t.modules.items)) good.modules.once;
  };
  signals = within.signals;
  answer = within.answer;
}
