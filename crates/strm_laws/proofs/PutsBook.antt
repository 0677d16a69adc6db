-- What puts in a pair book: what is told as made, one after the other, and nothing else; and with them deliveries.
use Rattle.strm_laws.proofs.Prelude.{ℕ, zero, suc, ◌≡◌, ◌-◌, Bool, true, false, cond, List, [], ◌∷◌, length, refl, sym, ap, subst, ◌∙◌, ◌==◌, ◌&&◌}
use Rattle.strm_laws.proofs.Prelude.{nat_le}
use Rattle.strm_laws.specs.Prelude.{HOPS, MODULES, Dir, MasterToSlave, SlaveToMaster, Side, Master, Slave, Way, Up, Down, Spot, with_made, Cells}
use Rattle.strm_laws.specs.Prelude.{Acted, Fate, Goes, Comes, Parcel, Took, carried, in_turn, Message, put_among, direction_at, is_open, other}
use Rattle.strm_laws.specs.Prelude.{side_from, is_bare_flush, Both, Book, get}
use Rattle.strm_laws.specs.Behaviours.{Behaviour}
use Rattle.strm_laws.specs.Earlier.{driver_place, modules_on}
use Rattle.strm_laws.specs.Places.{weight_made}
use Rattle.strm_laws.specs.Puts.{across_of, booked, delivered, made_above, module_acted, passed_up, put_at_driver, put_at_head, put_at_module, put_behind, put_below, put_in}
use Rattle.strm_laws.specs.Stacked.{Standing, module_puts}
use Rattle.strm_laws.specs.State.{State, book, stream, with_book}
use Rattle.strm_laws.proofs.EndsMake.{driver_put-none, head_put-none}
use Rattle.strm_laws.proofs.InOrder.{BooksMade, InOrder, books-none, carried-books, in_turn-books}
use Rattle.strm_laws.proofs.TurnOrder.{TurnOrder, all_made, order-none}
use Rattle.strm_laws.proofs.LawfulKinds.{puts-lawfully}

module _ {C : Type 0} where
  -- the books of both directions stay
  abbrev pub SameBooks : State C → State C → Type 0
  SameBooks s t = t.books ≡ s.books

  pub books-are : (s t : State C) → SameBooks s t → (dir : Dir) → book dir t ≡ book dir s
  books-are s t same dir = ap (λ (b : Both Book). get (side_from dir) b) same

  either-same : (s : State C) (b : Bool) (one another : Took C (State C)) → SameBooks s one.state → SameBooks s another.state → SameBooks s (cond b one another).state
  either-same s true one another first second = first
  either-same s false one another first second = second

  pub head-same : (side : Side) (here : Spot) (m : Message C) (s : State C) → SameBooks s (put_at_head side here m s).state
  head-same side here m s = either-same s (is_open (stream side s).opened) _ _ refl refl

  either-none : (p : Dir → C → Bool) (b : Bool) (one another : Took C (State C)) → weight_made p one.gone ≡ 0 → weight_made p another.gone ≡ 0 → weight_made p (cond b one another).gone ≡ 0
  either-none p true one another first second = first
  either-none p false one another first second = second

  pub head-none : (p : Dir → C → Bool) (side : Side) (here : Spot) (m : Message C) (s : State C) → weight_made p (put_at_head side here m s).gone ≡ 0
  head-none p side here m s = either-none p (is_open (stream side s).opened) _ _ (head_put-none p here m (stream side s).head) refl

  -- what is told as made is what the book has more then
  order-behind : (dir d : Dir) (xs : List C) (told : List (Fate C)) (cells : Cells C) (s : State C) (m : ℕ) → InOrder cells dir (book dir s).made (Comes d xs ∷ told) m
      → InOrder cells dir (book dir (with_book d (with_made (length xs) (book d s)) s)).made told m
  order-behind MasterToSlave MasterToSlave xs told cells s m is = is.1
  order-behind MasterToSlave SlaveToMaster xs told cells s m is = is
  order-behind SlaveToMaster MasterToSlave xs told cells s m is = is
  order-behind SlaveToMaster SlaveToMaster xs told cells s m is = is.1

  booked-made : (dir : Dir) (told : List (Fate C)) (cells : Cells C) (s : State C) (m : ℕ) → InOrder cells dir (book dir s).made told m → m ≡ (book dir (booked told s)).made
  booked-made dir [] cells s m is = sym is
  booked-made dir (Goes other rule xs ∷ told) cells s m is = booked-made dir told cells s m is
  booked-made dir (Comes d xs ∷ told) cells s m is = booked-made dir told cells (with_book d (with_made (length xs) (book d s)) s) m (order-behind dir d xs told cells s m is)

  pub more-written : (dir d : Dir) (n : ℕ) (s : State C) → (book dir (with_book d (with_made n (book d s)) s)).written ≡ (book dir s).written
  more-written MasterToSlave MasterToSlave n s = refl
  more-written MasterToSlave SlaveToMaster n s = refl
  more-written SlaveToMaster MasterToSlave n s = refl
  more-written SlaveToMaster SlaveToMaster n s = refl

  booked-written : (dir : Dir) (told : List (Fate C)) (s : State C) → (book dir (booked told s)).written ≡ (book dir s).written
  booked-written dir [] s = refl
  booked-written dir (Goes other rule xs ∷ told) s = booked-written dir told s
  booked-written dir (Comes d xs ∷ told) s = booked-written dir told (with_book d (with_made (length xs) (book d s)) s) ∙ more-written dir d (length xs) s

module _ {C : Type 0} (cells : Cells C) where
  abbrev Books : State C → List (Fate C) → State C → Type 0
  Books s told t = BooksMade cells s told t

  pub none-booked : (s t : State C) (told : List (Fate C)) → SameBooks s t → all_made told ≡ 0 → Books s told t
  none-booked s t told same none = books-none cells s t told (books-are s t same) none

  pub nothing-booked : (s t : State C) → SameBooks s t → Books s [] t
  nothing-booked s t same = none-booked s t [] same refl

  -- what is booked behind a state with the same books, and before one
  pub booked-behind : (s t u : State C) (told : List (Fate C)) → Books s told t → SameBooks t u → Books s told u
  booked-behind s t u told first same = record {
    written = λ dir. ap (λ b. b.written) (books-are t u same dir) ∙ first.written dir;
    made = λ dir. subst (λ n. InOrder cells dir (book dir s).made told n) (sym (ap (λ b. b.made) (books-are t u same dir))) (first.made dir);
  }

  pub booked-before : (s t u : State C) (told : List (Fate C)) → SameBooks s t → Books t told u → Books s told u
  booked-before s t u told same second = record {
    written = λ dir. second.written dir ∙ ap (λ b. b.written) (books-are s t same dir);
    made = λ dir. subst (λ n. InOrder cells dir n told (book dir u).made) (ap (λ b. b.made) (books-are s t same dir)) (second.made dir);
  }

  -- what a module does is booked as it is told
  ordered-made : (side : Side) (told : List (Fate C)) (s : State C) → TurnOrder cells side (book (direction_at Down side) s).made told → (dir : Dir) → InOrder cells dir (book dir s).made told (book dir (booked told s)).made
  ordered-made side told s order dir = at side dir order
    where
      goes : (dir : Dir) (m : ℕ) → InOrder cells dir (book dir s).made told m → InOrder cells dir (book dir s).made told (book dir (booked told s)).made
      goes dir m is = subst (λ n. InOrder cells dir (book dir s).made told n) (booked-made dir told cells s m is) is

      at : (side : Side) (dir : Dir) → TurnOrder cells side (book (direction_at Down side) s).made told → InOrder cells dir (book dir s).made told (book dir (booked told s)).made
      at Master MasterToSlave order = goes MasterToSlave _ order.down
      at Master SlaveToMaster order = goes SlaveToMaster _ (order.up s.books.slave.made)
      at Slave MasterToSlave order = goes MasterToSlave _ (order.up s.books.master.made)
      at Slave SlaveToMaster order = goes SlaveToMaster _ order.down

  pub acted-books : (side : Side) (here : Spot) (t : Acted C (List (Standing C))) (s : State C) → TurnOrder cells side (book (direction_at Down side) s).made t.gone → Books s t.gone (module_acted here t s).state
  acted-books side here t s order =
      let u : State C = (module_acted here (record t { gone = [] }) s).state in
      record { written = λ dir. booked-written dir t.gone u; made = ordered-made side t.gone u order }

  -- A put at a module makes the next cells of the direction in which it sends up.
  module _ (here : Spot) (m : Message C) where
    abbrev Ordered : ℕ → List (Fate C) → Type 0
    Ordered made told = TurnOrder cells (other here.side) made told

    among-order : (K : Behaviour) (made i : ℕ) (ps : List (Standing C)) → Ordered made (put_among (module_puts K cells made) i here m ps).gone
    among-order K made i [] = order-none cells (other here.side) made [] refl
    among-order K made zero (q ∷ ps) = (puts-lawfully K q cells made here m).order
    among-order K made (suc i) (q ∷ ps) = among-order K made i ps

  abbrev PutBooks : (Spot → Message C → State C → Took C (State C)) → Type 0
  PutBooks put = (to : Spot) (m : Message C) (s : State C) → Books s (put to m s).gone (put to m s).state

  stack-books : (K : Behaviour) → PutBooks (put_at_module K cells)
  stack-books K here m s =
      let made = made_above here.side s in
      acted-books (other here.side) here (put_among (module_puts K cells made) (here.at - 1) here m (stream here.side s).modules) s (among-order here m K made (here.at - 1) (stream here.side s).modules)

  either-books : (s : State C) (b : Bool) (one another : Took C (State C)) → Books s one.gone one.state → Books s another.gone another.state → Books s (cond b one another).gone (cond b one another).state
  either-books s true one another first second = first
  either-books s false one another first second = second

  head-books : (side : Side) → PutBooks (put_at_head side)
  head-books side here m s = none-booked s _ _ (head-same side here m s) (head-none (λ dir c. true) side here m s)

  driver-books : (side : Side) → PutBooks (put_at_driver side)
  driver-books side here m s =
      none-booked s _ _ refl (driver_put-none (λ dir c. true) side (across_of side s) (record here { at = driver_place side s }) m (stream side s).driver.queue)

  behind-books : (way : Way) → PutBooks (put_behind way)
  behind-books Down here m s = driver-books here.side here m s
  behind-books Up here m s =
      either-books s (is_bare_flush m && here.at == suc MODULES) (put_at_driver here.side here m s) (passed_up here m s) (driver-books here.side here m s) (nothing-booked s s refl)

  pub puts-book : (K : Behaviour) → PutBooks (put_in K cells)
  puts-book K here m s =
      either-books s (here.at == 0) (put_at_head here.side here m s) (put_below K cells here.way here m s) (head-books here.side here m s)
      (either-books s (nat_le here.at (modules_on here.side s)) (put_at_module K cells here m s) (put_behind here.way here m s) (stack-books K here m s) (behind-books here.way here m s))

  -- a delivery, and several
  pub delivered-books : (K : Behaviour) (to : Spot) (m : Message C) (s : State C) → let t = delivered K cells to m s in Books s t.gone t.state
  delivered-books K to m s = carried-books cells (put_in K cells) (puts-book K) HOPS (record { to = to; message = m }) s

  pub sent-books : (K : Behaviour) (ps : List (Parcel C)) (s : State C)
      → let t = in_turn (carried (put_in K cells) HOPS) ps s in Books s t.gone t.state
  sent-books K ps s = in_turn-books cells (put_in K cells) (puts-book K) (carried (put_in K cells) HOPS) (carried-books cells (put_in K cells) (puts-book K) HOPS) ps s
