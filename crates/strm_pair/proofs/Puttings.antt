-- A module that is put on a side's stack.
use Rattle.strm_pair.proofs.Prelude.{ℕ, ◌≡◌, ◌+◌, true, List, ◌∷◌, map, sym, ap, subst, ◌∙◌, Option, None, Some, IfSome}
use Rattle.strm_pair.proofs.Prelude.{set-all}
use Rattle.strm_pair.specs.Prelude.{Side, may_stand, with_modules, EachOnce, Standing, module_name, Stream, stream, with_stream, StoreValue}
use Rattle.strm_laws.proofs.StackOnce.{push-once}
use Rattle.strm_pair.specs.declared.ends.StreamEnd.{StreamEnd}
use Rattle.strm_pair.specs.declared.streams.Streams.{Streams}
use Rattle.strm_pair.specs.Framing.{for-same, stream_with}
use Rattle.strm_pair.specs.Lists.{first_list}
use Rattle.strm_pair.specs.Pairs.{state_in, end_at, with_end, AreHeld}
use Rattle.strm_pair.specs.Streams.{AreFor, IsSide, AreApart}
use Rattle.strm_pair.proofs.Sides.{set-state, stream-is}
use Rattle.strm_pair.specs.Stacks.{modules_in, IsStackHeld, stack_owns, Stack}

-- one that may stand there has a name of its own
pub pushed-once : (o : Option (Standing ℕ)) (new old : List (Standing ℕ)) → may_stand o old ≡ true → IfSome o (λ p. new ≡ p ∷ old) → AreApart old → AreApart new
pushed-once None new old may is each = absurd (cc)
pushed-once (Some p) new old may is each = subst AreApart (sym is) (push-once p old may each)

module _ (s : StoreValue) where
  side-put : (first : ℕ) (e : StreamEnd) (y : Stack) → IsSide s first e → IsStackHeld s y → AreApart (modules_in s y) → AreFor s (first + 2) (stack_owns y) → IsSide s first (record e { stack = y })
  side-put first e y is held once lists = record {
    head_list = is.head_list;
    driver_list = is.driver_list;
    head = is.head;
    driver = is.driver;
    stack = held;
    once = once;
    lists = lists;
  }

  -- one of modules of the same names, whose lists are the same
  pub side-changed : (first : ℕ) (e : StreamEnd) (y : Stack) → IsSide s first e → IsStackHeld s y → ((k : ℕ) → stack_owns y k ≡ stack_owns e.stack k) → map module_name (modules_in s y) ≡ map module_name (modules_in s e.stack)
      → IsSide s first (record e { stack = y })
  side-changed first e y is held owns names =
      side-put first e y is held (subst EachOnce (sym names) is.once) (for-same s (first + 2) (stack_owns e.stack) (stack_owns y) owns is.lists)

  pub held-put : (p : Streams) (side : Side) (y : Stack) → AreHeld s p → IsStackHeld s y → AreApart (modules_in s y) → AreFor s (first_list side + 2) (stack_owns y)
      → AreHeld s (with_end side (record (end_at side p) { stack = y }) p)
  held-put p side y held fits once lists = record {
    hand = held.hand;
    beside = set-all (λ sd e. IsSide s (first_list sd) e) side (record (end_at side p) { stack = y }) p.ends (side-put (first_list side) (end_at side p) y (held.beside side) fits once lists) held.beside;
  }

  -- what the streams stand for with it
  pub put-state : (p : Streams) (side : Side) (y : Stack) (o : Option (Standing ℕ)) → IfSome o (λ q. modules_in s y ≡ q ∷ modules_in s (end_at side p).stack)
      → IfSome o (λ q. state_in s (with_end side (record (end_at side p) { stack = y }) p) ≡ with_modules side (q ∷ (stream side (state_in s p)).modules) (state_in s p))
  put-state p side y None is = tt
  put-state p side y (Some q) is =
      set-state s p side (record (end_at side p) { stack = y })
      ∙ ap (λ ms. with_stream side (stream_with s (end_at side p) ms) (state_in s p)) is
      ∙ ap (λ (x : Stream ℕ). with_stream side (record x { modules = q ∷ x.modules }) (state_in s p)) (sym (stream-is s p side))
