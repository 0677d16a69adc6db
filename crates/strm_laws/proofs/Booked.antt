-- What is booked of cells that were made, and what their counts tell, which go modulo 2^64.
use Rattle.strm_laws.proofs.Prelude.{ℕ, ◌≡◌, ◌<◌, ◌+◌, ◌-◌, List, [], ◌∷◌, length, refl, ap, ◌∙◌, arith, ◌^◌}
use Rattle.strm_laws.specs.Prelude.{Dir, MasterToSlave, SlaveToMaster, QueueName, Side, Master, Slave, Fates, with_made, Fate, Goes, Comes}
use Rattle.strm_laws.specs.Prelude.{counted_with, tallied, made_of}
use Rattle.std.specs.Prelude.{◌%◌}
use Rattle.strm_laws.specs.Puts.{booked}
use Rattle.strm_laws.specs.State.{State, Stream, book, with_stream, with_book}

-- how many cells were made in a direction, of what is told
abbrev pub made_in : Dir → List (Fate ℕ) → ℕ
made_in dir [] = 0
made_in dir (Goes other rule cells ∷ told) = made_in dir told
made_in MasterToSlave (Comes MasterToSlave cells ∷ told) = length cells + made_in MasterToSlave told
made_in MasterToSlave (Comes SlaveToMaster cells ∷ told) = made_in MasterToSlave told
made_in SlaveToMaster (Comes MasterToSlave cells ∷ told) = made_in SlaveToMaster told
made_in SlaveToMaster (Comes SlaveToMaster cells ∷ told) = length cells + made_in SlaveToMaster told

pub made-within : (told : List (Fate ℕ)) → made_in MasterToSlave told + made_in SlaveToMaster told ≡ made_of told
made-within [] = refl
made-within (Goes dir rule cells ∷ told) = made-within told
made-within (Comes MasterToSlave cells ∷ told) = let rest = made-within told in omega arith
made-within (Comes SlaveToMaster cells ∷ told) = let rest = made-within told in omega arith

-- books with so many more made in both directions
abbrev pub both_made : ℕ → ℕ → State ℕ → State ℕ
both_made m n s = with_book SlaveToMaster (with_made n s.books.slave) (with_book MasterToSlave (with_made m s.books.master) s)

first-more : (a m n : ℕ) (s : State ℕ) → both_made m n (with_book MasterToSlave (with_made a s.books.master) s) ≡ both_made (a + m) n s
first-more a m n s = ap (λ (k : ℕ). (with_book SlaveToMaster (with_made n s.books.slave) (with_book MasterToSlave (record s.books.master { made = k }) s))) (let e : s.books.master.made + a + m ≡ s.books.master.made + (a + m) = omega arith in e)

second-more : (a m n : ℕ) (s : State ℕ) → both_made m n (with_book SlaveToMaster (with_made a s.books.slave) s) ≡ both_made m (a + n) s
second-more a m n s = ap (λ (k : ℕ). (with_book SlaveToMaster (record s.books.slave { made = k }) (with_book MasterToSlave (with_made m s.books.master) s))) (let e : s.books.slave.made + a + n ≡ s.books.slave.made + (a + n) = omega arith in e)

none-made : (s : State ℕ) → s ≡ both_made 0 0 s
none-made s =
    ap (λ (k : ℕ). (with_book MasterToSlave (record s.books.master { made = k }) s)) (let e : s.books.master.made ≡ s.books.master.made + 0 = omega arith in e)
    ∙ ap (λ (k : ℕ). (with_book SlaveToMaster (record s.books.slave { made = k }) (with_book MasterToSlave (with_made 0 s.books.master) s))) (let e : s.books.slave.made ≡ s.books.slave.made + 0 = omega arith in e)

pub booked-is : (told : List (Fate ℕ)) (s : State ℕ) → booked told s ≡ both_made (made_in MasterToSlave told) (made_in SlaveToMaster told) s
booked-is [] s = none-made s
booked-is (Goes dir rule cells ∷ told) s = booked-is told s
booked-is (Comes MasterToSlave cells ∷ told) s = booked-is told (with_book MasterToSlave (with_made (length cells) s.books.master) s) ∙ first-more (length cells) _ _ s
booked-is (Comes SlaveToMaster cells ∷ told) s = booked-is told (with_book SlaveToMaster (with_made (length cells) s.books.slave) s) ∙ second-more (length cells) _ _ s

-- the same of a stream of one side that changed, with other queues enabled
pub booked-on : (side : Side) (t : Stream ℕ) (names : List QueueName) (told : List (Fate ℕ)) (s : State ℕ) → booked told (record (with_stream side t s) { enabled = names })
    ≡ (record (with_book SlaveToMaster (with_made (made_in SlaveToMaster told) s.books.slave) (with_book MasterToSlave (with_made (made_in MasterToSlave told) s.books.master) (with_stream side t s))) { enabled = names })
booked-on Master t names told s = booked-is told (record (with_stream Master t s) { enabled = names })
booked-on Slave t names told s = booked-is told (record (with_stream Slave t s) { enabled = names })

pub book-made : (dir : Dir) (told : List (Fate ℕ)) (s : State ℕ) → (book dir (booked told s)).made ≡ (book dir s).made + made_in dir told
book-made MasterToSlave told s = ap (λ (v : State ℕ). v.books.master.made) (booked-is told s)
book-made SlaveToMaster told s = ap (λ (v : State ℕ). v.books.slave.made) (booked-is told s)

-- so the counts tell, modulo 2^64
wraps-on : (a b n : ℕ) → ((a + b) % 2 ^ 64 + n) % 2 ^ 64 ≡ (a + (b + n)) % 2 ^ 64
wraps-on a b n = omega arith

stays-low : (a : ℕ) → a < 2 ^ 64 → a ≡ (a + 0) % 2 ^ 64
stays-low a low = omega arith

pub master-told : (told : List (Fate ℕ)) (f : Fates) → f.made_from_master < 2 ^ 64 → (tallied told f).made_from_master ≡ (f.made_from_master + made_in MasterToSlave told) % 2 ^ 64
master-told [] f low = stays-low f.made_from_master low
master-told (Goes MasterToSlave rule cells ∷ told) f low = master-told told (counted_with (Goes MasterToSlave rule cells) f) low
master-told (Goes SlaveToMaster rule cells ∷ told) f low = master-told told (counted_with (Goes SlaveToMaster rule cells) f) low
master-told (Comes MasterToSlave cells ∷ told) f low =
    let g = counted_with (Comes MasterToSlave cells) f in
    master-told told g (let e : (f.made_from_master + length cells) % 2 ^ 64 < 2 ^ 64 = omega arith in e) ∙ wraps-on f.made_from_master (length cells) (made_in MasterToSlave told)
master-told (Comes SlaveToMaster cells ∷ told) f low = master-told told (counted_with (Comes SlaveToMaster cells) f) low

pub slave-told : (told : List (Fate ℕ)) (f : Fates) → f.made_from_slave < 2 ^ 64 → (tallied told f).made_from_slave ≡ (f.made_from_slave + made_in SlaveToMaster told) % 2 ^ 64
slave-told [] f low = stays-low f.made_from_slave low
slave-told (Goes MasterToSlave rule cells ∷ told) f low = slave-told told (counted_with (Goes MasterToSlave rule cells) f) low
slave-told (Goes SlaveToMaster rule cells ∷ told) f low = slave-told told (counted_with (Goes SlaveToMaster rule cells) f) low
slave-told (Comes MasterToSlave cells ∷ told) f low = slave-told told (counted_with (Comes MasterToSlave cells) f) low
slave-told (Comes SlaveToMaster cells ∷ told) f low =
    let g = counted_with (Comes SlaveToMaster cells) f in
    slave-told told g (let e : (f.made_from_slave + length cells) % 2 ^ 64 < 2 ^ 64 = omega arith in e) ∙ wraps-on f.made_from_slave (length cells) (made_in SlaveToMaster told)

-- how many lie between two counts
pub between-counts : (a n : ℕ) → a < 2 ^ 64 → n < 2 ^ 64 → ((a + n) % 2 ^ 64 + (2 ^ 64 - a)) % 2 ^ 64 ≡ n
between-counts a n low few = omega arith
