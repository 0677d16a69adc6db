-- A read of a side's head.
use Rattle.strm_pair.proofs.Prelude.{ℕ, ◌≡◌, Bool, List, sym, ap, ◌∙◌, min, bytes-plain}
use Rattle.strm_pair.specs.Prelude.{Bytes, READ_MAX, Side, Fates, tallied, before_head, direction_of, enable_some, head_of, read_gone, State, stream}
use Rattle.strm_pair.specs.Prelude.{with_stream, StoreValue, Head, head_in, queue_in, IsHeadQueue, Keeps, plain}
use Rattle.strm_types.specs.Reads.{head_draw, read_queue, read_lets_go}
use Rattle.strm_types.specs.Heads as heads
use Rattle.strm_pair.specs.declared.streams.Streams.{Streams}
use Rattle.strm_pair.specs.Framing.{still}
use Rattle.strm_pair.specs.Pairs.{state_in, end_at, with_end, AreBeside, kept_by}
use Rattle.strm_laws.specs.Calls.{read_at}
use Rattle.strm_pair.proofs.Sides.{head-changed, head-state, head-is, only-kept}

module _ (side : Side) (s : StoreValue) (p : Streams) (most n : ℕ) (most_is : most ≡ min n READ_MAX) where
  -- the head as it stands
  abbrev here : heads.Head ℕ
  here = head_in s (end_at side p).head

  pub read-answer : (out : List ℕ) → out ≡ (head_draw here.read_mode here.control_mode most here.queue.messages).given → Bytes out ≡ (read_at plain side n (state_in s p)).answer
  read-answer out given =
      let there = (stream side (state_in s p)).head in
      ap Bytes given ∙ ap (λ m. Bytes (head_draw here.read_mode here.control_mode m here.queue.messages).given) most_is
      ∙ ap (λ (h : heads.Head ℕ). Bytes (head_draw h.read_mode h.control_mode (min n READ_MAX) h.queue.messages).given) (sym (head-is s p side))
      ∙ ap Bytes (sym (bytes-plain (head_draw there.read_mode there.control_mode (min n READ_MAX) there.queue.messages).given))

  pub read-told : (old new : Fates) → new ≡ tallied (read_gone (direction_of (head_of side)) here.read_mode here.control_mode most here.queue.messages) old → new ≡ tallied (read_at plain side n (state_in s p)).gone old
  read-told old new told =
      told ∙ ap (λ m. tallied (read_gone (direction_of (head_of side)) here.read_mode here.control_mode m here.queue.messages) old) most_is
      ∙ ap (λ (h : heads.Head ℕ). tallied (read_gone (direction_of (head_of side)) h.read_mode h.control_mode (min n READ_MAX) h.queue.messages) old) (sym (head-is s p side))

  module _ (t : StoreValue) (h : Head) (lets_go : Bool) (beside : AreBeside s p) (keeps : Keeps s t (end_at side p).head.queue h.queue) (modes : h ≡ record (end_at side p).head { queue = h.queue }) where
    -- the streams behind it
    abbrev behind : Streams
    behind = record (with_end side (record (end_at side p) { head = h }) p) { enabled = enable_some lets_go (before_head side (state_in s p)) p.enabled }

    pub read-beside : IsHeadQueue t h.queue → AreBeside t behind
    read-beside ready = head-changed s t p beside (still s t (kept_by p) keeps.hand keeps.mblks keeps.dblks) side h (only-kept s t (end_at side p).head.queue h.queue keeps) ready.readable

    -- the state behind it, by what the head was
    abbrev led : heads.Head ℕ → ℕ → State ℕ
    led x m = record (with_stream side (record (stream side (state_in s p)) { head = record x { queue = read_queue x.read_mode x.control_mode m x.queue } }) (state_in s p)) {
      enabled = enable_some (read_lets_go x.read_mode x.control_mode m x.queue) (before_head side (state_in s p)) p.enabled;
    }

    pub read-state : queue_in t h.queue ≡ read_queue here.read_mode here.control_mode most here.queue → lets_go ≡ read_lets_go here.read_mode here.control_mode most here.queue → state_in t behind ≡ (read_at plain side n (state_in s p)).state
    read-state queue went =
        ap (λ (x : State ℕ). record x { enabled = enable_some lets_go (before_head side (state_in s p)) p.enabled })
        (head-state s t p beside (still s t (kept_by p) keeps.hand keeps.mblks keeps.dblks) side h (only-kept s t (end_at side p).head.queue h.queue keeps)
        ∙ ap (λ x. with_stream side (record (stream side (state_in s p)) { head = x }) (state_in s p)) (ap (head_in t) modes ∙ ap (λ q. record here { queue = q }) queue))
        ∙ ap (λ b. record (with_stream side (record (stream side (state_in s p)) { head = record here { queue = read_queue here.read_mode here.control_mode most here.queue } }) (state_in s p)) {
          enabled = enable_some b (before_head side (state_in s p)) p.enabled;
        }) went
        ∙ ap (λ m. led here m) most_is
        ∙ ap (λ x. led x (min n READ_MAX)) (sym (head-is s p side))
