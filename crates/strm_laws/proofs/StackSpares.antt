-- A put makes no more than what it takes of blocks says, so that the books have room for what it gives rise to.
use Rattle.strm_laws.proofs.Prelude.{ℕ, zero, suc, ◌≡◌, ◌<◌, ◌≤◌, ◌+◌, ◌-◌, Bool, true, false, cond, List, [], ◌∷◌, length, map, refl, ap, arith, min}
use Rattle.strm_laws.proofs.Prelude.{◌^◌, ◌==◌, ◌&&◌, slice_index_or}
use Rattle.strm_laws.specs.Prelude.{Book, Caller, MODULES, Dir, MasterToSlave, SlaveToMaster, Side, Way, Up, Down, Spot, with_made, Request, Cells}
use Rattle.strm_laws.specs.Prelude.{Acted, Comes, Fate, Goes, made_of, Message, shape_of, at_place, put_among, is_bare_flush, Both}
use Rattle.std.specs.Prelude.{◌*◌}
use Rattle.std.specs.Bool.{OnTrue}
use Rattle.strm_laws.specs.Behaviours.{Behaviour}
use Rattle.strm_laws.specs.Calls.{called, delivers}
use Rattle.strm_laws.specs.Puts.{booked, made_above, module_acted, passed_up, put_at_driver, put_at_head, put_at_module, put_behind}
use Rattle.strm_laws.specs.Refusals.{in_range}
use Rattle.strm_laws.specs.Spares.{module_packs, packet_most, spare, spare_behind}
use Rattle.strm_laws.specs.Stacked.{Standing, module_name, module_puts}
use Rattle.strm_laws.specs.State.{State, book, stream, with_book}
use Rattle.strm_laws.proofs.Balances.{range-low, still-same}
use Rattle.strm_types.proofs.PcktWithin.{makes-one}
use Rattle.strm_laws.proofs.PutsBook.{SameBooks, head-same}
use Rattle.strm_laws.proofs.LawfulKinds.{puts-lawfully}

-- a packet takes one unit at most
spare-falls : (made more : ℕ) → more ≤ packet_most → spare_behind made ≤ spare_behind (made + more) + 1
unfolding spare_behind
spare-falls made more few = omega (arith, few)

module _ {C : Type 0} where
  pub book-falls : (dir : Dir) (n : ℕ) (s : State C) → n ≤ packet_most → spare s ≤ spare (with_book dir (with_made n (book dir s)) s) + 1
  book-falls MasterToSlave n s few = let falls = spare-falls s.books.master.made n few in omega (arith, falls)
  book-falls SlaveToMaster n s few = let falls = spare-falls s.books.slave.made n few in omega (arith, falls)

-- where a unit is left, a packet fits the book
pub spare-fits : (made more : ℕ) → 1 ≤ spare_behind made → more ≤ packet_most → made + more ≤ 18446744073709551615
unfolding spare_behind
spare-fits made more some few = omega (arith, some, few)

module _ {C : Type 0} where
  -- no more is booked than what is told as made
  made-most : (told : List (Fate C)) (dir : Dir) (s : State C) → (book dir (booked told s)).made ≤ (book dir s).made + made_of told
  made-most [] dir s = omega arith
  made-most (Goes d rule xs ∷ told) dir s = let rest = made-most told dir s in omega (arith, rest)
  made-most (Comes MasterToSlave xs ∷ told) MasterToSlave s = let rest = made-most told MasterToSlave (with_book MasterToSlave (with_made (length xs) s.books.master) s) in omega (arith, rest)
  made-most (Comes MasterToSlave xs ∷ told) SlaveToMaster s = let rest = made-most told SlaveToMaster (with_book MasterToSlave (with_made (length xs) s.books.master) s) in omega (arith, rest)
  made-most (Comes SlaveToMaster xs ∷ told) MasterToSlave s = let rest = made-most told MasterToSlave (with_book SlaveToMaster (with_made (length xs) s.books.slave) s) in omega (arith, rest)
  made-most (Comes SlaveToMaster xs ∷ told) SlaveToMaster s = let rest = made-most told SlaveToMaster (with_book SlaveToMaster (with_made (length xs) s.books.slave) s) in omega (arith, rest)

-- as many units less as were made
less-behind : (made now more units : ℕ) → now ≤ made + more → more ≤ units * packet_most → spare_behind made ≤ spare_behind now + units
unfolding spare_behind
less-behind made now more units few low = omega (arith, few, low)

-- what so many units are fits a book
pub units-fit : (made more units : ℕ) → units ≤ spare_behind made → more ≤ units * packet_most → 0 < units → made + more < 18446744073709551616
unfolding spare_behind
units-fit made more units left low some = omega (arith, left, low, some)

-- where a book may still take more, much is left, and where much is left, little was made
range-behind : (made : ℕ) → made < 4611686018427387904 → 824000000000 ≤ spare_behind made
unfolding spare_behind
range-behind made low = omega (arith, low)

behind-low : (made : ℕ) → 820000000000 ≤ spare_behind made → made < 2 ^ 63
unfolding spare_behind
behind-low made left = omega (arith, left)

module _ {C : Type 0} where
  pub range-spare : (s : State C) → in_range s ≡ true → 824000000000 ≤ spare s
  range-spare s room =
      let master = range-behind s.books.master.made (range-low MasterToSlave s room).1 in
      let slave = range-behind s.books.slave.made (range-low SlaveToMaster s room).1 in
      omega (arith, master, slave)

  pub spare-low : (s : State C) → 820000000000 ≤ spare s → (dir : Dir) → (book dir s).made < 2 ^ 63
  spare-low s left MasterToSlave = behind-low s.books.master.made (omega (arith, left))
  spare-low s left SlaveToMaster = behind-low s.books.slave.made (omega (arith, left))

module _ {C : Type 0} where
  pub booked-falls : (told : List (Fate C)) (s : State C) (units : ℕ) → made_of told ≤ units * packet_most → spare s ≤ spare (booked told s) + units
  booked-falls told s units few =
      let master = less-behind s.books.master.made (booked told s).books.master.made (made_of told) units (made-most told MasterToSlave s) few in
      let slave = less-behind s.books.slave.made (booked told s).books.slave.made (made_of told) units (made-most told SlaveToMaster s) few in
      omega (arith, master, slave)

  -- a put at a module
  module _ (cells : Cells C) (made : ℕ) (here : Spot) (m : Message C) (small : length m.plain ≤ 16777216) where
    units-one : (q : Standing C) → module_packs here m q ≤ 1
    units-one q = makes-one (module_name q) here.way (shape_of m)

    pub among-makes : (K : Behaviour) (i : ℕ) (ps : List (Standing C)) → made_of (put_among (module_puts K cells made) i here m ps).gone ≤ slice_index_or (map (module_packs here m) ps) i 0 * packet_most
    among-makes K i [] = omega arith
    among-makes K zero (q ∷ ps) = (puts-lawfully K q cells made here m).makes small
    among-makes K (suc i) (q ∷ ps) = among-makes K i ps

    pub among-one : (i : ℕ) (ps : List (Standing C)) → slice_index_or (map (module_packs here m) ps) i 0 ≤ 1
    among-one i [] = omega arith
    among-one zero (q ∷ ps) = units-one q
    among-one (suc i) (q ∷ ps) = among-one i ps

  -- with the same books as much is left
  pub same-spare : (s t : State C) → SameBooks s t → spare t ≡ spare s
  same-spare s t same = ap (λ (b : Both Book). min (spare_behind b.master.made) (spare_behind b.slave.made)) same

  -- a module that acts makes so many at most
  pub acted-falls : (here : Spot) (t : Acted C (List (Standing C))) (s : State C) (units : ℕ) → made_of t.gone ≤ units * packet_most → spare s ≤ spare (module_acted here t s).state + units
  acted-falls here t s units makes = booked-falls t.gone (module_acted here (record t { gone = [] }) s).state units makes

  pub stack-falls : (K : Behaviour) (cells : Cells C) (here : Spot) (m : Message C) (s : State C) → length m.plain ≤ 16777216
      → spare s ≤ spare (put_at_module K cells here m s).state + at_place (module_packs here m) 0 here.at (stream here.side s).modules
  stack-falls K cells here m s small =
      let ps = (stream here.side s).modules in
      acted-falls here (put_among (module_puts K cells (made_above here.side s)) (here.at - 1) here m ps) s (at_place (module_packs here m) 0 here.at ps)
      (among-makes cells (made_above here.side s) here m small K (here.at - 1) ps)

  pub head-spare : (side : Side) (here : Spot) (m : Message C) (s : State C) → spare (put_at_head side here m s).state ≡ spare s
  head-spare side here m s = same-spare s (put_at_head side here m s).state (head-same side here m s)

  pub driver-spare : (side : Side) (here : Spot) (m : Message C) (s : State C) → spare (put_at_driver side here m s).state ≡ spare s
  driver-spare side here m s = same-spare s (put_at_driver side here m s).state refl

  pub behind-spare : (way : Way) (here : Spot) (m : Message C) (s : State C) → spare (put_behind way here m s).state ≡ spare s
  behind-spare Down here m s = driver-spare here.side here m s
  behind-spare Up here m s = at (is_bare_flush m && here.at == suc MODULES)
    where
      at : (across : Bool) → spare (cond across (put_at_driver here.side here m s) (passed_up here m s)).state ≡ spare s
      at true = driver-spare here.side here m s
      at false = refl

  -- behind a call of which is known what its deliveries take, little was made
  pub call-low : (K : Behaviour) (cells : Cells C) (caller : Caller) (asked : Request) (s : State C) → in_range s ≡ true → OnTrue (delivers asked) (spare s ≤ spare (called K cells caller asked s).state + 30) → (dir : Dir) → (book dir (called K cells caller asked s).state).made < 2 ^ 63
  call-low K cells caller asked s room falls = by (delivers asked) refl falls
    where
      behind : State C
      behind = (called K cells caller asked s).state

      by : (sends : Bool) → delivers asked ≡ sends → OnTrue sends (spare s ≤ spare behind + 30) → (dir : Dir) → (book dir behind).made < 2 ^ 63
      by true is falls = spare-low behind (omega (arith, range-spare s room, falls))
      by false is falls = spare-low behind (omega (arith, range-spare s room, same-spare s behind (still-same cells K caller asked s is)))
