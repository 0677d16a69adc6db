-- Streams that change alone, whatever stands in the store.
use Rattle.strm_pair.proofs.Prelude.{ℕ, ◌≡◌, suc, sym, ap, subst, ◌∙◌, map-set}
use Rattle.strm_pair.specs.Prelude.{Side, State, Stream, stream, with_stream, StoreValue, Head, head_in}
use Rattle.strm_types.specs.Heads as heads
use Rattle.strm_pair.specs.declared.ends.StreamEnd.{StreamEnd}
use Rattle.strm_pair.specs.declared.streams.Streams.{Streams}
use Rattle.strm_pair.specs.Effects.{Becomes}
use Rattle.strm_pair.specs.Framing.{state_with}
use Rattle.strm_pair.specs.Lists.{first_list}
use Rattle.strm_pair.specs.Pairs.{state_in, end_at, with_end}
use Rattle.strm_pair.specs.Streams.{stream_in, IsSide}
use Rattle.strm_pair.proofs.Sides.{head-held, held-with, stream-is}

module _ (side : Side) (p : Streams) (r : StreamEnd) (there : r ≡ end_at side p) where
  -- the stream of a side
  pub side-becomes : (x : StreamEnd) (becomes : Stream ℕ → Stream ℕ) → ((s : StoreValue) → stream_in s x ≡ becomes (stream_in s r))
      → ((s : StoreValue) → IsSide s (first_list side) r → IsSide s (first_list side) x) → Becomes p (with_end side x p) (λ st. with_stream side (becomes (stream side st)) st)
  side-becomes x becomes is fits = record {
    state = λ s.
        ap (state_with p) (map-set (stream_in s) side x p.ends)
        ∙ ap (λ y. with_stream side y (state_in s p)) (is s ∙ ap (λ (e : StreamEnd). becomes (stream_in s e)) there ∙ ap becomes (sym (stream-is s p side)));
    held = λ s held. held-with s p side x held (fits s (subst (IsSide s (first_list side)) (sym there) (held.beside side)));
  }

  -- its head, whose queue stays
  pub head-becomes : (h : Head) (becomes : heads.Head ℕ → heads.Head ℕ) → h.queue ≡ r.head.queue → ((s : StoreValue) → head_in s h ≡ becomes (head_in s r.head))
      → Becomes p (with_end side (record r { head = h }) p) (λ st. with_stream side (record (stream side st) { head = becomes (stream side st).head }) st)
  head-becomes h becomes same is = record {
    state = λ s.
        ap (state_with p) (map-set (stream_in s) side (record r { head = h }) p.ends)
        ∙ ap (λ (v : heads.Head ℕ). with_stream side (record (stream_in s r) { head = v }) (state_in s p)) (is s)
        ∙ ap (λ (x : Stream ℕ). with_stream side (record x { head = becomes x.head }) (state_in s p)) (ap (stream_in s) there ∙ sym (stream-is s p side));
    held = λ s held. head-held s p side r h there same held;
  }

-- and the number that the next ioctl gets
pub next-becomes : (p q : Streams) (becomes : State ℕ → State ℕ) (next : ℕ) → next ≡ suc p.next_ioctl → Becomes p q becomes
    → Becomes p (record q { next_ioctl = next }) (λ st. record (becomes st) { next_ioctl = suc st.next_ioctl })
next-becomes p q becomes next is one = record {
  state = λ s. ap (λ (v : State ℕ). record v { next_ioctl = next }) (one.state s) ∙ ap (λ n. record (becomes (state_in s p)) { next_ioctl = n }) is;
  held = λ s held. let h = one.held s held in record { hand = h.hand; beside = h.beside };
}
