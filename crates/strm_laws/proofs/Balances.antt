-- What stands on the queues of a pair and in its lines, with what has gone, is what its books say: of each direction, and of each byte.
use Rattle.strm_laws.proofs.Prelude.{ℕ, zero, suc, ◌≡◌, ◌<◌, ◌≤◌, ◌+◌, Bool, true, false, cond, List, [], ◌∷◌, ◌++◌, length, refl, sym, ap, subst}
use Rattle.strm_laws.proofs.Prelude.{◌∙◌, length-append, arith, ◌&&◌, ◌||◌, nat_lt, count_by, min, Option, None, Some, nat_tests, length-drop}
use Rattle.strm_laws.proofs.Prelude.{length-take, made-long}
use Rattle.strm_laws.specs.Prelude.{Book, Called, Turned, Caller, FlushQueues, Band, Shut, Push, Pop, Write, Read, Put, Get, READ_MAX, Prio, Dir}
use Rattle.strm_laws.specs.Prelude.{MasterToSlave, SlaveToMaster, Side, Master, Slave, Down, Einval, Erange, EndClosed, Spot, with_written, Request}
use Rattle.strm_laws.specs.Prelude.{Cells, cells_written, Fate, Goes, Comes, of_all, asked_of, flush_bytes, flush_message, asking, ioctl_message}
use Rattle.strm_laws.specs.Prelude.{asks_group, PlainEntry, Message, cells_of, data_message, part, direction_from, direction_of, head_of, is_open}
use Rattle.strm_laws.specs.Prelude.{is_no_prio, is_too_long, put_refusal, or_else, chunk_count, chunks_of, mode_message}
use Rattle.std.proofs.Common.{◌^◌}
use Rattle.std.specs.Prelude.{drop, take}
use Rattle.strm_types.specs.declared.books.TheConstants.{BOOK_MAX}
use Rattle.strm_types.specs.declared.events.Event.TheVariants.{Flush, Ioctl}
use Rattle.strm_types.specs.declared.limits.TheConstants.{CONTROL_MAX, DATA_MAX}
use Rattle.strm_types.specs.Books as books
use Rattle.strm_laws.specs.Behaviours.{Behaviour}
use Rattle.strm_laws.specs.Calls.{Outcome, called, delivers, group_at, ioctl_at, ioctl_begun, ioctl_sent, ioctl_told, message_put, performed, put_at, write_sent, wrote}
use Rattle.strm_laws.specs.Closes.{closed_at, driver_emptied, ended, head_emptied, hung_up_at, stream_emptied}
use Rattle.strm_laws.specs.Kept.{count_came, gone}
use Rattle.strm_laws.specs.Ledgers.{FewBooked}
use Rattle.strm_laws.specs.Places.{weight_made}
use Rattle.strm_laws.specs.Pushes.{head_above, named_by}
use Rattle.strm_laws.specs.Puts.{delivered, flushed_on}
use Rattle.strm_laws.specs.Refusals.{blocks_asked, in_range, refused_at_once, refused_by_state, unfit}
use Rattle.strm_laws.specs.Stacked.{Standing}
use Rattle.strm_laws.specs.State.{State, book, stream, with_book, with_stream}
use Rattle.strm_laws.specs.Step.{after}
use Rattle.strm_laws.specs.Turns.{turned}
use Rattle.strm_laws.specs.Writes.{Wrote, below_head, cells_sent, chunks_sent, is_full_below}
use Rattle.strm_laws.proofs.Replay.{fitting-met}
use Rattle.strm_laws.proofs.Stopping.{of-allowed, of-called}
use Rattle.strm_laws.proofs.ChangesMake.{close-none, get-none, pop-none, push-none, read-none}
use Rattle.strm_laws.proofs.InOrder.{AreNext, BooksMade, InOrder, Numbered, books-both}
use Rattle.strm_laws.proofs.PushHolds.{Survives, modules_emptied-holds, pop-holds, push-holds}
use Rattle.strm_laws.proofs.PutsBook.{SameBooks, books-are, booked-before, booked-behind, delivered-books, head-same, none-booked, nothing-booked}
use Rattle.strm_laws.proofs.StepBooks.{turn-books}
use Rattle.strm_laws.proofs.TurnOrder.{all_made}

-- a push, a pop, a close and what a head is told book nothing
module _ {C : Type 0} where
  abbrev AnyModules : List (Standing C) → Type 0
  AnyModules ps = Unit {0}

  books-survive : (s : State C) (side : Side) → Survives side (SameBooks s) AnyModules
  books-survive s side = record {
    named = λ names t same. same;
    apart = λ ps t good same. same;
    given = λ mode t same. head-same side (head_above side) (mode_message mode false) t ∙ same;
    good = λ t same. tt;
    dropped = λ ms t same. same;
    below = λ q ps good. tt;
  }

  emptied-books : (side : Side) (s : State C) → SameBooks s (stream_emptied side s).state
  emptied-books side s = modules_emptied-holds side (SameBooks s) AnyModules (books-survive s side) EndClosed (head_emptied EndClosed of_all side s).state refl

  hung_up-books : (s : State C) → SameBooks s (hung_up_at Slave s)
  hung_up-books s = at (is_open (stream Slave s).opened)
    where
      at : (opened : Bool) → SameBooks s (cond opened (with_stream Slave (record (stream Slave s) { head = record (stream Slave s).head { hung_up = true } }) s) s)
      at true = refl
      at false = refl

  close-books : (side : Side) (s : State C) → SameBooks s (closed_at side s).state
  close-books Slave s = emptied-books Slave s
  close-books Master s =
      let heads = (stream_emptied Master s).state in
      let all = (driver_emptied EndClosed of_all Slave (driver_emptied EndClosed of_all Master heads).state).state in
      hung_up-books (ended Master all) ∙ emptied-books Master s

  pub told-books : (side : Side) (s : State C) → SameBooks s (ioctl_told side s).state
  told-books side s = refl

-- a call books what it tells as made, and what it writes
module _ {C : Type 0} (cells : Cells C) where
  abbrev Books : State C → List (Fate C) → State C → Type 0
  Books s told t = BooksMade cells s told t

  -- a call that delivers nothing books nothing, and makes nothing
  performed-same : (K : Behaviour) (caller : Caller) (asked : Request) (s : State C) → delivers asked ≡ false
      → SameBooks s (performed K cells caller asked s).state
  performed-same K caller Shut s still = close-books caller.side s
  performed-same K caller (Push name) s still = push-holds caller.side (SameBooks s) AnyModules (books-survive s caller.side) (named_by K name) s (λ q. tt) refl
  performed-same K caller Pop s still = pop-holds caller.side (SameBooks s) AnyModules (books-survive s caller.side) s refl
  performed-same K caller (Flush what band) s still = absurd (cc)
  performed-same K caller (Write bytes) s still = absurd (cc)
  performed-same K caller (Put prio control body) s still = absurd (cc)
  performed-same K caller (Ioctl command body) s still = absurd (cc)
  performed-same K caller _ s still = refl

  pub still-same : (K : Behaviour) (caller : Caller) (asked : Request) (s : State C) → delivers asked ≡ false
      → SameBooks s (called K cells caller asked s).state
  still-same K caller asked s still = of-called K cells caller asked s (λ outcome. SameBooks s outcome.state) (λ signal. refl) (performed-same K caller asked s still)

  performed-none : (K : Behaviour) (caller : Caller) (asked : Request) (s : State C) → delivers asked ≡ false
      → all_made (performed K cells caller asked s).gone ≡ 0
  performed-none K caller Shut s still = close-none (λ d c. true) caller.side s
  performed-none K caller (Push name) s still = push-none (λ d c. true) caller.side (named_by K name) s
  performed-none K caller Pop s still = pop-none (λ d c. true) caller.side s
  performed-none K caller (Read n) s still =
      let h = (stream caller.side s).head in
      read-none (λ d c. true) (direction_of (head_of caller.side)) h.read_mode h.control_mode (min n READ_MAX) h.queue.messages
  performed-none K caller (Get wanted cmax dmax) s still = get-none (λ d c. true) (direction_of (head_of caller.side)) wanted (min cmax READ_MAX) (min dmax READ_MAX) (stream caller.side s).head.queue.messages
  performed-none K caller (Flush what band) s still = absurd (cc)
  performed-none K caller (Write bytes) s still = absurd (cc)
  performed-none K caller (Put prio control body) s still = absurd (cc)
  performed-none K caller (Ioctl command body) s still = absurd (cc)
  performed-none K caller _ s still = refl

  -- a flush and an ioctl book what their deliveries make
  flush-books : (K : Behaviour) (side : Side) (what : FlushQueues) (band : Option Band) (s : State C) → let t = flushed_on K cells band side what s in Books s t.gone t.state
  flush-books K side what band s = delivered-books cells K (record { side = side; at = 1; way = Down }) (flush_message (flush_bytes (asked_of what band))) s

  group-books : (side : Side) (command : ℕ) (body : List ℕ) (s : State C) → Books s [] (group_at side command body s).state
  group-books side command body s = nothing-booked cells s (group_at side command body s).state refl

  ioctl-books : (K : Behaviour) (side : Side) (command : ℕ) (body : List ℕ) (s : State C) → let t = ioctl_sent K cells side command body s in Books s t.gone (ioctl_told side t.state).state
  ioctl-books K side command body s =
      let begun = ioctl_begun side command s in
      let t = ioctl_sent K cells side command body s in
      booked-before cells s begun _ t.gone refl
      (booked-behind cells begun t.state (ioctl_told side t.state).state t.gone (delivered-books cells K (record { side = side; at = 1; way = Down }) (ioctl_message (asking command s.next_ioctl) body) begun) refl)

  -- the chunks of a write
  pub chunks-book : (K : Behaviour) (side : Side) (chunks : List (List C)) (s : State C)
      → let t = chunks_sent K cells side chunks s in Books s t.gone t.state
  chunks-book K side [] s = nothing-booked cells s s refl
  chunks-book K side (chunk ∷ chunks) s =
      let t = delivered K cells (below_head side) (data_message chunk) s in
      let more = chunks_sent K cells side chunks t.state in
      either-books (is_full_below 0 side s) _ _ (nothing-booked cells s s refl)
      (books-both cells s t.state more.state t.gone more.gone (delivered-books cells K (below_head side) (data_message chunk) s) (chunks-book K side chunks t.state))
    where
      either-books : (full : Bool) (one another : Wrote C) → Books s one.gone one.state → Books s another.gone another.state → Books s (cond full one another).gone (cond full one another).state
      either-books true one another first second = first
      either-books false one another first second = second

-- cells that are written
module _ {C : Type 0} (cells : Cells C) where
  pub written-long : (dir : Dir) (n : ℕ) (bytes : List ℕ) → length (cells_written cells dir n bytes) ≡ length bytes
  written-long dir n [] = refl
  written-long dir n (b ∷ bytes) = let more = written-long dir (suc n) bytes in omega arith

  take-written : (k : ℕ) (dir : Dir) (n : ℕ) (bytes : List ℕ) → take k (cells_written cells dir n bytes) ≡ cells_written cells dir n (take k bytes)
  take-written zero dir n bytes = refl
  take-written (suc k) dir n [] = refl
  take-written (suc k) dir n (b ∷ bytes) = ap (λ xs. cells.written dir n b ∷ xs) (take-written k dir (suc n) bytes)

  join-written : (dir : Dir) (n : ℕ) (xs ys : List ℕ) → cells_written cells dir n xs ++ cells_written cells dir (n + length xs) ys ≡ cells_written cells dir n (xs ++ ys)
  join-written dir n [] ys = ap (λ k. cells_written cells dir k ys) (let e : n + 0 ≡ n = omega arith in e)
  join-written dir n (x ∷ xs) ys =
      ap (λ zs. cells.written dir n x ∷ zs)
      (ap (λ k. cells_written cells dir (suc n) xs ++ cells_written cells dir k ys) (let e : n + length (x ∷ xs) ≡ suc n + length xs = omega arith in e) ∙ join-written dir (suc n) xs ys)

  -- the cells of a putmsg are the next ones
  put-written : (side : Side) (prio : Prio) (control body : Option (List ℕ)) (s : State C) →
      cells_of (message_put cells side prio control body s) ≡ cells_written cells (direction_from side) (book (direction_from side) s).written (part control ++ part body)
  unfolding cells_of
  put-written side prio None None s = refl
  put-written side prio None (Some body) s = ap (λ n. cells_written cells (direction_from side) n body) (let e : (book (direction_from side) s).written + 0 ≡ (book (direction_from side) s).written = omega arith in e)
  put-written side prio (Some control) None s = join-written (direction_from side) (book (direction_from side) s).written control []
  put-written side prio (Some control) (Some body) s = join-written (direction_from side) (book (direction_from side) s).written control body

module _ {C : Type 0} (K : Behaviour) (cells : Cells C) where
  -- a write takes no more than it is given
  chunks-few : (side : Side) (count : ℕ) (xs : List C) (s : State C) → (chunks_sent K cells side (chunks_of count xs) s).taken ≤ length xs
  chunks-few side zero xs s = omega arith
  chunks-few side (suc count) xs s =
      let t = delivered K cells (below_head side) (data_message (take 256 xs)) s in
      let more = chunks-few side count (drop 256 xs) t.state in
      either-few (is_full_below 0 side s) _ _ (omega arith) (omega (arith, more, length-take 256 xs, length-drop 256 xs))
    where
      either-few : (full : Bool) (one another : Wrote C) → one.taken ≤ length xs → another.taken ≤ length xs → (cond full one another).taken ≤ length xs
      either-few true one another first second = first
      either-few false one another first second = second

  sent-few : (side : Side) (xs : List C) (s : State C) → (cells_sent K cells side xs s).taken ≤ length xs
  sent-few side xs s = chunks-few side (chunk_count (length xs)) xs s

module _ {C : Type 0} (cells : Cells C) (p : Dir → C → Bool) (numbered : Numbered cells p) where
  -- how many cells pass the test of those that a book numbers, and both books
  abbrev pub upto : Dir → Book → ℕ
  upto dir b = numbered.upto_written dir b.written + numbered.upto_made dir b.made

  abbrev pub total : State C → ℕ
  total s = upto MasterToSlave s.books.master + upto SlaveToMaster s.books.slave

  -- what is told as made is counted by the books
  next-counts : (dir : Dir) (n : ℕ) (xs : List C) → AreNext cells dir n xs → count_by (p dir) xs + numbered.upto_made dir n ≡ numbered.upto_made dir (n + length xs)
  next-counts dir n xs next =
      let is = next.is in
      let bytes = next.bytes in
      let long : length xs ≡ length bytes = ap (λ ys. length ys) is ∙ made-long cells dir n bytes in
      ap (λ ys. count_by (p dir) ys + numbered.upto_made dir n) is ∙ numbered.made dir n bytes ∙ ap (λ k. numbered.upto_made dir (n + k)) (sym long)

  made-counts : (told : List (Fate C)) (a b c d : ℕ) → InOrder cells MasterToSlave a told b → InOrder cells SlaveToMaster c told d
      → weight_made p told + (numbered.upto_made MasterToSlave a + numbered.upto_made SlaveToMaster c) ≡ numbered.upto_made MasterToSlave b + numbered.upto_made SlaveToMaster d
  made-counts [] a b c d one two = omega (arith, ap (λ n. numbered.upto_made MasterToSlave n) one, ap (λ n. numbered.upto_made SlaveToMaster n) two)
  made-counts (Goes dir rule xs ∷ told) a b c d one two = omega (arith, made-counts told a b c d one two)
  made-counts (Comes MasterToSlave xs ∷ told) a b c d one two = omega (arith, next-counts MasterToSlave a xs one.0, made-counts told (a + length xs) b c d one.1 two)
  made-counts (Comes SlaveToMaster xs ∷ told) a b c d one two = omega (arith, next-counts SlaveToMaster c xs two.0, made-counts told a b (c + length xs) d one two.1)

  books-count : (s t : State C) (told : List (Fate C)) → BooksMade cells s told t → weight_made p told + total s ≡ total t
  books-count s t told books =
      omega (
        arith,
        made-counts told s.books.master.made t.books.master.made s.books.slave.made t.books.slave.made (books.made MasterToSlave) (books.made SlaveToMaster),
        ap (λ n. numbered.upto_written MasterToSlave n) (books.written MasterToSlave),
        ap (λ n. numbered.upto_written SlaveToMaster n) (books.written SlaveToMaster),
      )

  -- what is written is counted by the book of its direction
  written-counts : (dir : Dir) (bytes : List ℕ) (s t : State C) (told : List (Fate C)) → BooksMade cells s told t → let n = (book dir s).written in
      count_by (p dir) (cells_written cells dir n bytes) + weight_made p told + total s ≡ total (with_book dir (with_written (length bytes) (book dir t)) t)
  written-counts MasterToSlave bytes s t told books =
      let same = books.written MasterToSlave in
      omega (
        arith,
        books-count s t told books,
        numbered.written MasterToSlave s.books.master.written bytes,
        ap (λ n. numbered.upto_written MasterToSlave n) same,
        ap (λ n. numbered.upto_written MasterToSlave (n + length bytes)) same,
      )
  written-counts SlaveToMaster bytes s t told books =
      let same = books.written SlaveToMaster in
      omega (
        arith,
        books-count s t told books,
        numbered.written SlaveToMaster s.books.slave.written bytes,
        ap (λ n. numbered.upto_written SlaveToMaster n) same,
        ap (λ n. numbered.upto_written SlaveToMaster (n + length bytes)) same,
      )

  -- what a call came to
  abbrev Counts : Caller → State C → Outcome C → Type 0
  Counts caller s outcome = count_by (p (direction_from caller.side)) outcome.came + weight_made p outcome.gone + total s ≡ total outcome.state

  write-counts : (K : Behaviour) (caller : Caller) (bytes : List ℕ) (s : State C) → Counts caller s (wrote K cells caller.side bytes s)
  write-counts K caller bytes s =
      let side = caller.side in
      let dir = direction_from side in
      let n = (book dir s).written in
      let t = write_sent K cells side bytes s in
      let xs = cells_written cells dir n bytes in
      let few = sent-few K cells side xs s in
      let long : length (take t.taken bytes) ≡ t.taken = omega (arith, length-take t.taken bytes, few, written-long cells dir n bytes) in
      ap (λ ys. count_by (p dir) ys + weight_made p t.gone + total s) (take-written cells t.taken dir n bytes)
      ∙ written-counts dir (take t.taken bytes) s t.state t.gone (chunks-book cells K side (chunks_of (chunk_count (length xs)) xs) s)
      ∙ ap (λ k. total (with_book dir (with_written k (book dir t.state)) t.state)) long

  put-counts : (K : Behaviour) (caller : Caller) (prio : Prio) (control body : Option (List ℕ)) (s : State C) → Counts caller s (performed K cells caller (Put prio control body) s)
  put-counts K caller prio control body s =
      ap (λ xs. count_by (p dir) xs + weight_made p (put_at K cells side prio control body s).gone + total s) (put-written cells side prio control body s) ∙ at control body
    where
      side : Side
      side = caller.side

      dir : Dir
      dir = direction_from side

      sent-counts : (xs ys : List ℕ) (m : Message C) → let t = delivered K cells (record { side = side; at = 1; way = Down }) m s in
          count_by (p dir) (cells_written cells dir (book dir s).written (xs ++ ys)) + weight_made p t.gone + total s ≡ total (with_book dir (with_written (length xs + length ys) (book dir t.state)) t.state)
      sent-counts xs ys m =
          let to : Spot = record { side = side; at = 1; way = Down } in
          let t = delivered K cells to m s in
          written-counts dir (xs ++ ys) s t.state t.gone (delivered-books cells K to m s) ∙ ap (λ k. total (with_book dir (with_written k (book dir t.state)) t.state)) (length-append xs ys)

      at : (c b : Option (List ℕ)) → let t = put_at K cells side prio c b s in count_by (p dir) (cells_written cells dir (book dir s).written (part c ++ part b)) + weight_made p t.gone + total s ≡ total t.state
      at None None = omega arith
      at None (Some ys) = sent-counts [] ys (message_put cells side prio None (Some ys) s)
      at (Some xs) b = sent-counts xs (part b) (message_put cells side prio (Some xs) b s)

  still-counts : (K : Behaviour) (caller : Caller) (asked : Request) (s : State C) → delivers asked ≡ false → weight_made p (performed K cells caller asked s).gone + total s ≡ total (performed K cells caller asked s).state
  still-counts K caller asked s still =
      let t = performed K cells caller asked s in
      books-count s t.state t.gone (none-booked cells s t.state t.gone (performed-same cells K caller asked s still) (performed-none cells K caller asked s still))

  -- a call
  performed-counts : (K : Behaviour) (caller : Caller) (asked : Request) (s : State C) → Counts caller s (performed K cells caller asked s)
  performed-counts K caller (Write bytes) s = write-counts K caller bytes s
  performed-counts K caller (Put prio control body) s = put-counts K caller prio control body s
  performed-counts K caller (Flush what band) s = omega (arith, books-count s (flushed_on K cells band caller.side what s).state (flushed_on K cells band caller.side what s).gone (flush-books cells K caller.side what band s))
  performed-counts K caller (Ioctl command body) s = at (asks_group caller.side command)
    where
      at : (group : Bool) → Counts caller s (cond group (group_at caller.side command body s) (ioctl_at K cells caller.side command body s))
      at true = omega (arith, books-count s (group_at caller.side command body s).state [] (group-books cells caller.side command body s))
      at false = let t = ioctl_at K cells caller.side command body s in omega (arith, books-count s t.state t.gone (ioctl-books cells K caller.side command body s))
  performed-counts K caller asked s = omega (arith, still-counts K caller asked s refl)

  -- a step
  pub step-counts : (K : Behaviour) (s : State C) (entry : PlainEntry) → count_came K cells p s entry + weight_made p (gone K cells s entry) + total s ≡ total (after K cells s entry)
  step-counts K s (Called caller asked answer) = of-called K cells caller asked s (Counts caller s) (λ signal. omega arith) (performed-counts K caller asked s)
  step-counts K s (Turned name turn) = omega (arith, books-count s (turned K cells name turn s).state (turned K cells name turn s).gone (turn-books cells K name turn s))

pub both-true : (a b : Bool) → (a && b) ≡ true → (a ≡ true) × (b ≡ true)
both-true true true is = (refl, refl)
both-true true false is = absurd (cc)
both-true false b is = absurd (cc)

has-room : (b : Book) → books.has_room b ≡ true → (b.written < BOOK_MAX) × (b.made < BOOK_MAX)
has-room b room =
    let parts = both-true (nat_lt b.written BOOK_MAX) (nat_lt b.made BOOK_MAX) room in
    (let first = parts.0 in grind (arith, nat_tests), let second = parts.1 in grind (arith, nat_tests))

-- a write is of few bytes
abbrev pub WritesFew : Request → Type 0
WritesFew (Write bytes) = length bytes < 2 ^ 62
WritesFew asked = Unit {0}

-- what is asked of so many blocks: each has 256 bytes at most
pub written-by-blocks : (asked : Request) (n : ℕ) → n ≤ 65536 → blocks_asked asked ≤ n → WritesFew asked
unfolding chunk_count
written-by-blocks (Write bytes) n few enough = omega (arith, few, enough)
written-by-blocks _ n few enough = tt

-- a putmsg with whose arguments nothing is wrong has few bytes
pub parts-few : (prio : Prio) (control body : Option (List ℕ)) → put_refusal prio control body ≡ None → length (part control) + length (part body) ≤ CONTROL_MAX + DATA_MAX
parts-few prio control body none = at (is_no_prio prio control) (is_too_long control body) refl none
  where
    few : (a b : Bool) → (a || b) ≡ false → (a ≡ false) × (b ≡ false)
    few false false is = (refl, refl)
    few true b is = absurd (cc)
    few false true is = absurd (cc)

    at : (wrong long : Bool) → is_too_long control body ≡ long → cond wrong (Some Einval) (cond long (Some Erange) None) ≡ None → length (part control) + length (part body) ≤ CONTROL_MAX + DATA_MAX
    at true long is none = absurd (cc)
    at false true is none = absurd (cc)
    at false false is none =
        let parts = few (nat_lt CONTROL_MAX (length (part control))) (nat_lt DATA_MAX (length (part body))) is in
        let first = parts.0 in
        let second = parts.1 in
        let one : length (part control) ≤ CONTROL_MAX = grind (arith, nat_tests) in
        let two : length (part body) ≤ DATA_MAX = grind (arith, nat_tests) in
        omega (arith, one, two)

module _ {C : Type 0} where
  pub range-low : (dir : Dir) (s : State C) → in_range s ≡ true → ((book dir s).written < BOOK_MAX) × ((book dir s).made < BOOK_MAX)
  range-low MasterToSlave s room = has-room s.books.master (both-true (books.has_room s.books.master) (books.has_room s.books.slave) room).0
  range-low SlaveToMaster s room = has-room s.books.slave (both-true (books.has_room s.books.master) (books.has_room s.books.slave) room).1

  -- a turn books nothing as written, and where it makes few bytes
  pub turn-few : (cells : Cells C) (s t : State C) (told : List (Fate C)) → in_range s ≡ true → BooksMade cells s told t → ((dir : Dir) → (book dir t).made < 2 ^ 63) → FewBooked t
  turn-few cells s t told room books made = record { written = λ dir. let low = range-low dir s room in omega (arith, low.0, books.written dir); made = made }

  -- where no more is made than a book may hold
  abbrev MadeFew : State C → Type 0
  MadeFew t = (dir : Dir) → (book dir t).made < 2 ^ 63

  same-few : (s t : State C) → SameBooks s t → FewBooked s → FewBooked t
  same-few s t same few = record {
    written = λ dir. subst (λ b. b.written < 2 ^ 63) (sym (books-are s t same dir)) (few.written dir);
    made = λ dir. subst (λ b. b.made < 2 ^ 63) (sym (books-are s t same dir)) (few.made dir);
  }

  written-few : (cells : Cells C) (dir : Dir) (n : ℕ) (s t : State C) (told : List (Fate C)) → in_range s ≡ true → n < 2 ^ 62 → BooksMade cells s told t → (let u = with_book dir (with_written n (book dir t)) t in MadeFew u → FewBooked u)
  written-few cells dir n s t told room less books made = record { written = λ other. at dir other; made = made }
    where
      at : (dir other : Dir) → (book other (with_book dir (with_written n (book dir t)) t)).written < 2 ^ 63
      at MasterToSlave MasterToSlave = let low = range-low MasterToSlave s room in omega (arith, low.0, books.written MasterToSlave, less)
      at MasterToSlave SlaveToMaster = let low = range-low SlaveToMaster s room in omega (arith, low.0, books.written SlaveToMaster)
      at SlaveToMaster MasterToSlave = let low = range-low MasterToSlave s room in omega (arith, low.0, books.written MasterToSlave)
      at SlaveToMaster SlaveToMaster = let low = range-low SlaveToMaster s room in omega (arith, low.0, books.written SlaveToMaster, less)

  performed-few : (K : Behaviour) (cells : Cells C) (caller : Caller) (asked : Request) (s : State C) → or_else (refused_at_once s caller asked) (unfit K s caller asked) ≡ None → WritesFew asked → FewBooked s
      → (in_range s ≡ true → MadeFew (performed K cells caller asked s).state) → FewBooked (performed K cells caller asked s).state
  performed-few K cells caller (Write bytes) s allowed less few made =
      let dir = direction_from caller.side in
      let xs = cells_written cells dir (book dir s).written bytes in
      let t = write_sent K cells caller.side bytes s in
      let range = (fitting-met K s caller (Write bytes) allowed).booked in
      written-few cells dir t.taken s t.state t.gone range
      (omega (arith, sent-few K cells caller.side xs s, written-long cells dir (book dir s).written bytes, less)) (chunks-book cells K caller.side (chunks_of (chunk_count (length xs)) xs) s) (made range)
  performed-few K cells caller (Put prio control body) s allowed less few made =
      let may = fitting-met K s caller (Put prio control body) allowed in
      at control body may.booked (omega (arith, parts-few prio control body may.right)) (made may.booked)
    where
      sent : (n : ℕ) (m : Message C) → in_range s ≡ true → n < 2 ^ 62 → (let t = delivered K cells (record { side = caller.side; at = 1; way = Down }) m s in
          let u = with_book (direction_from caller.side) (with_written n (book (direction_from caller.side) t.state)) t.state in MadeFew u → FewBooked u)
      sent n m room less made = written-few cells (direction_from caller.side) n s _ _ room less (delivered-books cells K (record { side = caller.side; at = 1; way = Down }) m s) made

      at : (c b : Option (List ℕ)) → in_range s ≡ true → length (part c) + length (part b) < 2 ^ 62 → MadeFew (put_at K cells caller.side prio c b s).state → FewBooked (put_at K cells caller.side prio c b s).state
      at None None room less made = few
      at None (Some ys) room less made = sent (0 + length ys) (message_put cells caller.side prio None (Some ys) s) room less made
      at (Some xs) b room less made = sent (length xs + length (part b)) (message_put cells caller.side prio (Some xs) b s) room less made
  performed-few K cells caller (Flush what band) s allowed less few made =
      let range = (fitting-met K s caller (Flush what band) allowed).booked in
      turn-few cells s (flushed_on K cells band caller.side what s).state (flushed_on K cells band caller.side what s).gone range (flush-books cells K caller.side what band s) (made range)
  performed-few K cells caller (Ioctl command body) s allowed less few made = at (asks_group caller.side command) made
    where
      at : (group : Bool) → let t = cond group (group_at caller.side command body s) (ioctl_at K cells caller.side command body s) in (in_range s ≡ true → MadeFew t.state) → FewBooked t.state
      at true made = same-few s (group_at caller.side command body s).state refl few
      at false made =
          let range = (fitting-met K s caller (Ioctl command body) allowed).booked in
          let t = ioctl_at K cells caller.side command body s in
          turn-few cells s t.state t.gone range (ioctl-books cells K caller.side command body s) (made range)
  performed-few K cells caller asked s allowed less few made = same-few s (performed K cells caller asked s).state (performed-same cells K caller asked s refl) few

  pub call-few : (K : Behaviour) (cells : Cells C) (caller : Caller) (asked : Request) (s : State C) → or_else (refused_at_once s caller asked) (refused_by_state K s caller asked) ≡ None → WritesFew asked → FewBooked s
      → (in_range s ≡ true → MadeFew (called K cells caller asked s).state) → FewBooked (called K cells caller asked s).state
  call-few K cells caller asked s allowed less few made =
      of-allowed K cells caller asked s (λ outcome. (in_range s ≡ true → MadeFew outcome.state) → FewBooked outcome.state)
      (λ signal made. few) allowed
      (λ fits. performed-few K cells caller asked s fits less few) made
