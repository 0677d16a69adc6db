-- A putmsg on a side's stream: its message is delivered from below the head, and its bytes are booked as written.
use Rattle.strm_pair.proofs.Prelude.{ℕ, ◌≡◌, ◌<◌, ◌+◌, Bool, true, false, cond, List, [], length, refl, sym, ap, ◌∙◌, arith, Option, None, Some}
use Rattle.strm_pair.proofs.Prelude.{option_map, nat_lt, ◌&&◌, nat_tests, written-plain}
use Rattle.strm_pair.specs.Prelude.{Book, Prio, Dir, MasterToSlave, SlaveToMaster, Side, Master, Slave, Down, Fates, Spot, with_written, plain}
use Rattle.strm_pair.specs.Prelude.{cells_written, Carried, tallied, Message, part, direction_from, no_parts, put_message, delivered, in_range, spare}
use Rattle.strm_pair.specs.Prelude.{State, book, with_book, Behaviour}
use Rattle.strm_types.specs.declared.books.TheConstants.{BOOK_MAX}
use Rattle.strm_types.specs.Books as books
use Rattle.strm_laws.specs.Calls.{message_put, put_at}
use Rattle.strm_laws.proofs.PutsBook.{delivered-books}

-- a book that has room
both-true : (a b : Bool) → (a && b) ≡ true → (a ≡ true) × (b ≡ true)
both-true true true h = (refl, refl)
both-true true false h = absurd (cc)
both-true false b h = absurd (cc)

room-low : (b : Book) → books.has_room b ≡ true → b.written < BOOK_MAX
room-low b h = let lt = (both-true (nat_lt b.written BOOK_MAX) (nat_lt b.made BOOK_MAX) h).0 in grind (arith, nat_tests)

pub written-low : (a b : Book) → (books.has_room a && books.has_room b) ≡ true → (a.written < BOOK_MAX) × (b.written < BOOK_MAX)
written-low a b h = let parts = both-true (books.has_room a) (books.has_room b) h in (room-low a parts.0, room-low b parts.1)

pub book-low : (side : Side) (s : State ℕ) → in_range s ≡ true → (book (direction_from side) s).written < BOOK_MAX
book-low Master s room = (written-low (book MasterToSlave s) (book SlaveToMaster s) room).0
book-low Slave s room = (written-low (book MasterToSlave s) (book SlaveToMaster s) room).1

-- plain bytes have no origin
part-plain : (dir : Dir) (n : ℕ) (o : Option (List ℕ)) → option_map (cells_written plain dir n) o ≡ o
part-plain dir n None = refl
part-plain dir n (Some bytes) = ap Some (written-plain dir n bytes)

message-plain : (side : Side) (prio : Prio) (control body : Option (List ℕ)) (s : State ℕ) → message_put plain side prio control body s ≡ put_message prio control body
message-plain side prio control body s =
    let dir = direction_from side in
    let n = (book dir s).written in
    ap (λ c. put_message prio c (option_map (cells_written plain dir (n + length (part control))) body)) (part-plain dir n control)
    ∙ ap (λ b. put_message prio control b) (part-plain dir (n + length (part control)) body)

module _ (K : Behaviour) (side : Side) (prio : Prio) (control body : Option (List ℕ)) (s : State ℕ) (some : no_parts control body ≡ false) where
  -- what is delivered of a message
  abbrev sent : Message ℕ → Carried ℕ (State ℕ)
  sent m = delivered K plain (record { side = side; at = 1; way = Down }) m s

  abbrev booked : Message ℕ → Carried ℕ (State ℕ)
  booked m = record { state = with_book (direction_from side) (with_written (length (part control) + length (part body)) (book (direction_from side) (sent m).state)) (sent m).state; gone = (sent m).gone }

  put-is : put_at K plain side prio control body s ≡ booked (put_message prio control body)
  put-is =
      ap (λ (b : Bool). cond b (record { state = s; gone = [] }) (booked (message_put plain side prio control body s))) some
      ∙ ap booked (message-plain side prio control body s)

  module _ (message : Message ℕ) (shows : message ≡ put_message prio control body) where
    pub put-state : (t u : State ℕ) (b : Book) (n : ℕ) → t ≡ (sent message).state → u ≡ with_book (direction_from side) b t → b ≡ with_written n (book (direction_from side) t) → n ≡ length (part control) + length (part body)
        → u ≡ (put_at K plain side prio control body s).state
    put-state t u b n led kept b_is n_is =
        kept
        ∙ ap (λ x. with_book (direction_from side) b x) led
        ∙ ap (λ x. with_book (direction_from side) x (sent message).state) (b_is ∙ ap (λ v. with_written n (book (direction_from side) v)) led)
        ∙ ap (λ k. with_book (direction_from side) (with_written k (book (direction_from side) (sent message).state)) (sent message).state) n_is
        ∙ ap (λ m. (booked m).state) shows
        ∙ sym (ap (λ (x : Carried ℕ (State ℕ)). x.state) put-is)

    pub put-told : (old new : Fates) → new ≡ tallied (sent message).gone old → new ≡ tallied (put_at K plain side prio control body s).gone old
    put-told old new told =
        told
        ∙ ap (λ m. tallied (sent m).gone old) shows
        ∙ sym (ap (λ (x : Carried ℕ (State ℕ)). tallied x.gone old) put-is)

-- what was written before stays in a delivery, and more is written than made
pub sent-written : (K : Behaviour) (to : Spot) (m : Message ℕ) (dir : Dir) (s : State ℕ) → (book dir (delivered K plain to m s).state).written
    ≡ (book dir s).written
sent-written K to m dir s = (delivered-books plain K to m s).written dir

pub written-spare : (dir : Dir) (n : ℕ) (s : State ℕ) → spare (with_book dir (with_written n (book dir s)) s) ≡ spare s
written-spare MasterToSlave n s = refl
written-spare SlaveToMaster n s = refl
