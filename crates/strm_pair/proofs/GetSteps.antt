-- A get from a side's head: what it hands back is the answer.
use Rattle.strm_pair.proofs.Prelude.{ℕ, ◌≡◌, ◌≤◌, ◌+◌, List, [], ◌++◌, length, append-nil, length-append, refl, sym, ap, subst, ◌∙◌, arith, None}
use Rattle.strm_pair.proofs.Prelude.{Some, option_map, bytes-plain}
use Rattle.strm_pair.specs.Prelude.{Answer, Msg, READ_MAX, Side, plain, part_len, reply_in, part, stream, StoreValue, messages_on}
use Rattle.std.proofs.Common.{min, Option}
use Rattle.strm_types.specs.declared.modes.Wanted.{Wanted}
use Rattle.strm_types.specs.Events.{Reply, map_answer}
use Rattle.strm_types.specs.Cells.{bytes_of}
use Rattle.strm_types.specs.Gets.{Got, head_get, prio_got}
use Rattle.strm_types.specs.Journal.{answer_len}
use Rattle.strm_types.specs.Heads as plain_state
use Rattle.strm_laws.proofs.GetKeeps.{get-control, get-data}
use Rattle.strm_laws.proofs.StoredCalls.{reply-back, reply-size}
use Rattle.strm_head.specs.declared.getting.Gotten.{Gotten}
use Rattle.strm_head.specs.Getting.{Gives}
use Rattle.strm_pair.specs.declared.streams.Streams.{Streams}
use Rattle.strm_pair.specs.Pairs.{state_in, end_at}
use Rattle.strm_pair.specs.Parts.{longest_part}
use Rattle.strm_pair.proofs.Sides.{head-is}

part-plain : (o : Option (List ℕ)) → o ≡ option_map (bytes_of plain) o
part-plain None = refl
part-plain (Some bytes) = ap Some (sym (bytes-plain bytes))

part-size : (o : Option (List ℕ)) → part_len (option_map (λ (cells : List ℕ). length cells) o) ≡ length (part o)
part-size None = refl
part-size (Some bytes) = refl

-- what a get takes of a side's head
abbrev pub got_at : Side → Wanted → ℕ → ℕ → StoreValue → Streams → Got ℕ
got_at side wanted cmax dmax s p = head_get wanted (min cmax READ_MAX) (min dmax READ_MAX) (stream side (state_in s p)).head.queue.messages

pub gives-is : (side : Side) (wanted : Wanted) (cmax dmax most most_data : ℕ) (s : StoreValue) (p : Streams) → most ≡ min cmax READ_MAX → most_data ≡ min dmax READ_MAX
    → (got : Gotten) (out : List ℕ) → Gives got out (head_get wanted most most_data (messages_on s (end_at side p).head.queue.list)) → Gives got out (got_at side wanted cmax dmax s p)
gives-is side wanted cmax dmax most most_data s p most_is data_is got out gives =
    subst (λ (h : plain_state.Head ℕ). Gives got out (head_get wanted (min cmax READ_MAX) (min dmax READ_MAX) h.queue.messages)) (sym (head-is s p side))
    (subst (λ n. Gives got out (head_get wanted (min cmax READ_MAX) n (messages_on s (end_at side p).head.queue.list))) data_is
    (subst (λ n. Gives got out (head_get wanted n most_data (messages_on s (end_at side p).head.queue.list))) most_is gives))

-- the answer of what was got
abbrev answered : Gotten → Answer ℕ
answered got = Msg got.prio got.control got.body got.more_control got.more_data

abbrev reply_of : Got ℕ → Reply
reply_of g = Msg (prio_got g) g.control g.body g.more_control g.more_data

module _ (got : Gotten) (out : List ℕ) (g : Got ℕ) (gives : Gives got out g) where
  shape : answered got ≡ map_answer (λ (cells : List ℕ). length cells) (reply_of g)
  shape = rw (gives.prio, gives.control_there, gives.body_there, gives.more_control, gives.more_data) refl

  pub got-answer : reply_in (answered got) out ≡ Msg (prio_got g) (option_map (bytes_of plain) g.control) (option_map (bytes_of plain) g.body) g.more_control g.more_data
  got-answer =
      ap (λ a. reply_in a out) shape
      ∙ ap (λ xs. reply_in (map_answer (λ (cells : List ℕ). length cells) (reply_of g)) xs) (gives.given ∙ sym (append-nil (part g.control ++ part g.body)))
      ∙ reply-back (reply_of g) []
      ∙ ap (λ c. Msg (prio_got g) c g.body g.more_control g.more_data) (part-plain g.control)
      ∙ ap (λ b. Msg (prio_got g) (option_map (bytes_of plain) g.control) b g.more_control g.more_data) (part-plain g.body)

  pub got-filled : answer_len (answered got) ≡ length out
  got-filled = ap answer_len shape ∙ reply-size (reply_of g) ∙ ap (λ (xs : List ℕ). length xs) (sym gives.given)

-- how much is got
module _ (got : Gotten) (out : List ℕ) (side : Side) (wanted : Wanted) (cmax dmax : ℕ) (s : StoreValue) (p : Streams) (gives : Gives got out (got_at side wanted cmax dmax s p)) where
  abbrev g : Got ℕ
  g = got_at side wanted cmax dmax s p

  control-few : length (part g.control) ≤ min cmax READ_MAX
  control-few = get-control wanted (min cmax READ_MAX) (min dmax READ_MAX) (stream side (state_in s p)).head.queue.messages

  body-few : length (part g.body) ≤ min dmax READ_MAX
  body-few = get-data wanted (min cmax READ_MAX) (min dmax READ_MAX) (stream side (state_in s p)).head.queue.messages

  pub got-few : length out ≤ min cmax READ_MAX + min dmax READ_MAX
  got-few =
      let first = control-few in
      let second = body-few in
      omega (arith, first, second, ap (λ (xs : List ℕ). length xs) gives.given, length-append (part g.control) (part g.body))

  pub got-parts : longest_part (answered got) ≤ READ_MAX
  got-parts =
      let first = control-few in
      let second = body-few in
      let control_len : part_len got.control ≡ length (part g.control) = ap part_len gives.control_there ∙ part-size g.control in
      let body_len : part_len got.body ≡ length (part g.body) = ap part_len gives.body_there ∙ part-size g.body in
      omega (arith, first, second, control_len, body_len)
