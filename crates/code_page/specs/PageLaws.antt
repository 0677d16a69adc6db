-- What code_page owes the stream on which it stands: it loses no cell and doubles none, answers within its table, and does the same whatever stands
-- for bytes.
use Rattle.std.proofs.Common.{ℕ, ◌≡◌, ◌≤◌, ◌<◌, Bool, true, false, cond, List, [], ◌∷◌, length, map, refl, sym, ap, ◌∙◌, arith}
use Rattle.std.proofs.lemmas.Bool.{false≢true}
use Rattle.std.proofs.lemmas.Bool.Decides.{nat_tests}
use Rattle.std.proofs.lemmas.List.{length-append, length-map}
use Rattle.std.proofs.lemmas.List.Sums.{sum_by-cons}
use Rattle.std.specs.List.{AllByRecursion}
use Rattle.std.specs.Prelude.{◌&&◌, ◌||◌, ◌%◌, count_by, not, slice_index_or, sum_by, None, Option, Some, option_map}
use Rattle.strm_types.specs.declared.ioctls.Ioc.{Ioc}
use Rattle.strm_types.specs.declared.names.ModuleName.TheVariants as modules
use Rattle.strm_types.specs.declared.names.Way.{Way}
use Rattle.strm_types.specs.declared.names.Way.TheVariants.{Up, Down}
use Rattle.strm_types.specs.declared.spots.Spot.{Spot}
use Rattle.strm_types.specs.Acks.{ack_message, acked, payload}
use Rattle.strm_types.specs.Budgets.{Does, Within, emits_at}
use Rattle.strm_types.specs.Cells.{AreCells, Cells, plain}
use Rattle.strm_types.specs.Commands.{is_asked, is_ioctl}
use Rattle.strm_types.specs.Deliver.{onward, toward}
use Rattle.strm_types.specs.Ioctls.{ioc_bytes, nak_message, read_ioc, refused}
use Rattle.strm_types.specs.Message.{Message, cells_of, has_parts, is_part, map_message, part, weight_of}
use Rattle.strm_types.specs.Names.{direction_at, have_queues}
use Rattle.strm_types.specs.Origins.{map_acted}
use Rattle.strm_types.specs.Owns.{Own}
use Rattle.strm_types.specs.Shapes.{Asking, shape_by, shape_of}
use Rattle.strm_types.specs.Tables.{own_does}
use Rattle.strm_types.specs.Write.{chunk_count}
use Rattle.strm_laws.specs.Behaviours.{GoodOwn, OwnPut, blocks_of, part_blocks}
use Rattle.strm_laws.specs.GoodMessages.{GoodMessage}
use Rattle.strm_types.proofs.CostsOf.{one-few}
use Rattle.strm_types.proofs.ShapesOf.{asked-shape}
use Rattle.strm_types.proofs.Weights.{count-join}
use Rattle.strm_laws.proofs.GoodHeads.{header-long, nak-good}
use Rattle.strm_laws.proofs.GoodPtems.{ack-good}
use Rattle.strm_laws.proofs.LdtermKeeps.{onward-weighs}
use Rattle.strm_laws.proofs.NoOwn.{passes-put, passes-within}
use Rattle.strm_laws.proofs.PutForgets.{parts-forget}
use Rattle.strm_laws.proofs.PutWeights.{no-parts}
use Rattle.code_page.specs.CodePages.{answered, changed, exchanged, is_page, knows_page, no_page, ours, page_command, page_of, page_puts, passed}

-- what a part has is mapped, and no part comes or goes
module _ {C : Type 0} (g : C → C) where
  same-part : (o : Option (List C)) → is_part (option_map (map g) o) ≡ is_part o
  same-part None = refl
  same-part (Some xs) = refl

  same-blocks : (o : Option (List C)) → part_blocks (option_map (map g) o) ≡ part_blocks o
  same-blocks None = refl
  same-blocks (Some xs) = ap (λ n. chunk_count n) (length-map xs g)

module _ {C : Type 0} (cells : Cells C) (page : List ℕ) where
  -- a test that says the same of a cell with another byte counts as many
  exchanged-weighs : (q : C → Bool) → ((b : ℕ) (c : C) → q (cells.mapped b c) ≡ q c) → (xs : List C) → count_by q (map (exchanged cells page) xs)
      ≡ count_by q xs
  exchanged-weighs q same [] = refl
  exchanged-weighs q same (c ∷ xs) =
      let one = ap (λ b. let n : ℕ = cond b 1 0 in n) (same (slice_index_or page (cells.byte c) 0) c) in
      omega (
        arith,
        one,
        exchanged-weighs q same xs,
        sum_by-cons (λ c. cond (q c) 1 0) c xs,
        sum_by-cons (λ c. cond (q c) 1 0) (exchanged cells page c) (map (exchanged cells page) xs),
      )

  part-weighs : (q : C → Bool) → ((b : ℕ) (c : C) → q (cells.mapped b c) ≡ q c) → (o : Option (List C))
      → count_by q (part (option_map (map (exchanged cells page)) o)) ≡ count_by q (part o)
  part-weighs q same None = refl
  part-weighs q same (Some xs) = exchanged-weighs q same xs

  changed-weighs : (q : C → Bool) → ((b : ℕ) (c : C) → q (cells.mapped b c) ≡ q c) → (m : Message C) → weight_of q (changed cells page m) ≡ weight_of q m
  unfolding weight_of cells_of
  changed-weighs q same m =
      omega (
        arith,
        count-join q (part m.control) (part m.body),
        count-join q (part m.control) (part (option_map (map (exchanged cells page)) m.body)),
        part-weighs q same m.body,
      )

  same-shape : (m : Message C) → shape_of (changed cells page m) ≡ shape_of m
  same-shape m = ap (λ b. shape_by (is_part m.control || b) m.kind m.plain) (same-part (exchanged cells page) m.body)

  changed-good : (m : Message C) → GoodMessage m → GoodMessage (changed cells page m)
  changed-good m good = record {
    control = good.control;
    body = λ is. same-part (exchanged cells page) m.body ∙ good.body is;
    bare = λ is. same-part (exchanged cells page) m.body ∙ good.bare is;
    plain = good.plain;
    band = good.band;
    high = good.high;
    header = good.header;
    options = good.options;
  }

-- an M_IOCTL that asks the module comes down, and has no parts
ours-down : {C : Type 0} (way : Way) (m : Message C) (ioc : Ioc) → ours way m ≡ Some ioc → way ≡ Down
ours-down Up m ioc is = absurd (cc)
ours-down Down m ioc is = refl

pub ours-asked : {C : Type 0} (way : Way) (m : Message C) (ioc : Ioc) → ours way m ≡ Some ioc → is_asked m ≡ true
ours-asked Up m ioc is = absurd (cc)
ours-asked Down m ioc is = by (is_asked m) (read_ioc m.plain) is
  where
    by : (asked : Bool) (o : Option Ioc) → page_command asked o ≡ Some ioc → asked ≡ true
    by asked None is = absurd (cc)
    by true (Some known) is = refl
    by false (Some known) is = absurd (cc)

asked-bare : {C : Type 0} (m : Message C) → is_asked m ≡ true → has_parts m ≡ false
asked-bare m is = by (is_ioctl m.kind) (has_parts m) is
  where
    by : (a b : Bool) → (a && not b) ≡ true → b ≡ false
    by true false is = refl
    by true true is = absurd (cc)
    by false b is = absurd (cc)

low-bytes : (bytes : List ℕ) → AllByRecursion (λ b. b < 256) (page_of bytes)
low-bytes [] = tt
low-bytes (b ∷ bytes) = (omega arith, low-bytes bytes)

module _ {C : Type 0} (cells : Cells C) (here : Spot) (m : Message C) (x : Own) where
  changes : OwnPut true cells here m x (record { state = x; notes = []; sent = onward here.way here (changed cells x.settings m) ∷ []; gone = [] })
  changes = record {
    number = refl;
    notes = refl;
    once = λ p tests. (
        let dir = direction_at here.way here.side in
        omega (arith, onward-weighs p here.way here (changed cells x.settings m), changed-weighs cells x.settings (p dir) (tests refl dir) m)
        );
    none_made = λ p. refl;
    unread = tt;
    within = λ cost. (
        let most = sum_by cost (emits_at here (own_does here.way (shape_of m))) in
        let shape = ap (λ s. cost (record { to = toward here.way here; shape = s })) (same-shape cells x.settings m) in
        one-few cost most (toward here.way here) (changed cells x.settings m) (omega (arith, shape, passes-within here cost here.way (shape_of m)))
        );
    kinds = (λ only. refl, tt);
    fits = omega (arith, same-blocks (exchanged cells x.settings) m.body);
    sends = λ good. (changed-good cells x.settings m good, tt);
    stays = λ good. good;
  }

  -- a put that changes no byte owes no less of a test on cells that may see bytes
  passes : OwnPut true cells here m x (record { state = x; notes = []; sent = onward here.way here m ∷ []; gone = [] })
  passes =
      let same = passes-put cells here m x in
      record {
        number = same.number;
        notes = same.notes;
        once = λ p tests. same.once p (λ none. absurd (false≢true none));
        none_made = same.none_made;
        unread = same.unread;
        within = same.within;
        kinds = same.kinds;
        fits = same.fits;
        sends = same.sends;
        stays = same.stays;
      }

  goes-on : (page : Bool) → OwnPut true cells here m x (record { state = x; notes = []; sent = onward here.way here (passed page cells x.settings m) ∷ []; gone = [] })
  goes-on true = changes
  goes-on false = passes

  module _ (ioc : Ioc) (down : here.way ≡ Down) (asked : is_asked m ≡ true) where
    table : own_does here.way (shape_of m) ≡ own_does Down Asking
    table = ap (λ way. own_does way (shape_of m)) down ∙ ap (λ shape. own_does Down shape) (asked-shape m asked)

    ack-within : Within (answered {C = C} true ioc here (payload m.plain) x).sent (emits_at here (own_does here.way (shape_of m)))
    ack-within cost =
        let costs = λ (d : Does). sum_by cost (emits_at here d) in
        one-few cost (costs (own_does here.way (shape_of m))) (toward Up here) (ack_message ioc []) (omega (arith, ap costs table))

    nak-within : Within (answered {C = C} false ioc here (payload m.plain) x).sent (emits_at here (own_does here.way (shape_of m)))
    nak-within cost =
        let costs = λ (d : Does). sum_by cost (emits_at here d) in
        one-few cost (costs (own_does here.way (shape_of m))) (toward Up here) (nak_message ioc) (omega (arith, ap costs table))

    ack-fits : blocks_of {C = C} (ack_message ioc []) ≤ blocks_of m
    ack-fits = let long = length-append (ioc_bytes (acked ioc)) [] in let header = header-long (acked ioc) in omega (arith, long, header)

    nak-fits : blocks_of {C = C} (nak_message ioc) ≤ blocks_of m
    nak-fits = let header = header-long (refused ioc) in omega (arith, header)

    bare-weighs : (q : C → Bool) → 0 ≡ weight_of q m
    bare-weighs q = sym (no-parts q m (asked-bare m asked))

    answers : (page : Bool) → is_page (payload m.plain) ≡ page → OwnPut true cells here m x (answered page ioc here (payload m.plain) x)
    unfolding weight_of cells_of
    answers true long = record {
      number = refl;
      notes = refl;
      once = λ p tests. bare-weighs (p (direction_at here.way here.side));
      none_made = λ p. refl;
      unread = tt;
      within = ack-within;
      kinds = (λ only. absurd (false≢true only), tt);
      fits = omega (arith, ack-fits);
      sends = λ good. (ack-good ioc [] (omega arith), tt);
      stays = λ good. record {
        number = good.number;
        few = (let is : length (payload m.plain) ≡ 256 = grind (arith, nat_tests) in omega (arith, is, length-map (payload m.plain) (λ (b : ℕ). b % 256)));
        bytes = low-bytes (payload m.plain);
      };
    }
    answers false long = record {
      number = refl;
      notes = refl;
      once = λ p tests. bare-weighs (p (direction_at here.way here.side));
      none_made = λ p. refl;
      unread = tt;
      within = nak-within;
      kinds = (λ only. absurd (false≢true only), tt);
      fits = omega (arith, nak-fits);
      sends = λ good. (nak-good ioc, tt);
      stays = λ good. good;
    }

pub page-put : {C : Type 0} (cells : Cells C) (here : Spot) (m : Message C) (x : Own)
    → OwnPut true cells here m x (page_puts (ours here.way m) cells here m x)
page-put cells here m x = by (ours here.way m) refl
  where
    by : (o : Option Ioc) → ours here.way m ≡ o → OwnPut true cells here m x (page_puts o cells here m x)
    by None is = goes-on cells here m x (is_page x.settings)
    by (Some ioc) is =
        answers cells here m x ioc (ours-down here.way m ioc is) (ours-asked here.way m ioc is) (is_page (payload m.plain)) refl

-- whatever stands for bytes
module _ {C : Type 0} (cells : Cells C) (are : AreCells cells) (page : List ℕ) where
  bytes-same : (xs : List C) → map (exchanged plain page) (map cells.byte xs) ≡ map cells.byte (map (exchanged cells page) xs)
  bytes-same [] = refl
  bytes-same (c ∷ xs) =
      ap (λ b. b ∷ map (exchanged plain page) (map cells.byte xs)) (sym (are.byte_mapped (slice_index_or page (cells.byte c) 0) c))
      ∙ ap (λ bytes. cells.byte (exchanged cells page c) ∷ bytes) (bytes-same xs)

  body-same : (o : Option (List C)) → option_map (map (exchanged plain page)) (option_map (map cells.byte) o)
      ≡ option_map (map cells.byte) (option_map (map (exchanged cells page)) o)
  body-same None = refl
  body-same (Some xs) = ap (λ bytes. Some bytes) (bytes-same xs)

  changed-same : (m : Message C) → changed plain page (map_message cells.byte m) ≡ map_message cells.byte (changed cells page m)
  unfolding map_message
  changed-same m =
      let control : Option (List ℕ) = option_map (map cells.byte) m.control in
      ap (λ (o : Option (List ℕ)). record { kind = m.kind; band = m.band; control = control; body = o; plain = m.plain }) (body-same m.body)

  passed-same : (is : Bool) (m : Message C) → passed is plain page (map_message cells.byte m) ≡ map_message cells.byte (passed is cells page m)
  passed-same true m = changed-same m
  passed-same false m = refl

module _ {C : Type 0} (cells : Cells C) (are : AreCells cells) (x : Own) where
  ours-same : (way : Way) (m : Message C) → ours way (map_message cells.byte m) ≡ ours way m
  unfolding map_message
  ours-same Up m = refl
  ours-same Down m = ap (λ parts. page_command (is_ioctl m.kind && not parts) (read_ioc m.plain)) (parts-forget cells.byte m)

  answers-same : (page : Bool) (ioc : Ioc) (here : Spot) (given : List ℕ) → answered page ioc here given x
      ≡ map_acted cells.byte (λ (y : Own). y) (answered page ioc here given x)
  unfolding map_message
  answers-same true ioc here given = refl
  answers-same false ioc here given = refl

  puts-same : (o : Option Ioc) (here : Spot) (m : Message C) → page_puts o plain here (map_message cells.byte m) x
      ≡ map_acted cells.byte (λ (y : Own). y) (page_puts o cells here m x)
  unfolding map_message
  puts-same None here m =
      ap (λ (n : Message ℕ). record { state = x; notes = []; sent = onward here.way here n ∷ []; gone = [] })
      (passed-same cells are x.settings (is_page x.settings) m)
  puts-same (Some ioc) here m = answers-same (is_page (payload m.plain)) ioc here (payload m.plain)

  pub page-forgets : (here : Spot) (m : Message C)
      → page_puts (ours here.way (map_message cells.byte m)) plain here (map_message cells.byte m) x
      ≡ map_acted cells.byte (λ (y : Own). y) (page_puts (ours here.way m) cells here m x)
  page-forgets here m = ap (λ o. page_puts o plain here (map_message cells.byte m) x) (ours-same here.way m) ∙ puts-same (ours here.way m) here m

-- one as it is pushed can be in an image
pub page-good : (n : ℕ) → knows_page n ≡ true → GoodOwn (record { number = n; settings = no_page })
page-good n is = let e : n ≡ 1 = grind (arith, nat_tests) in record { number = omega (arith, e); few = omega arith; bytes = tt }

-- and has no queues
pub page-queues : (n : ℕ) → knows_page n ≡ true → have_queues (modules.Own n) ≡ true → false ≡ true
page-queues n is has = let e : n ≡ 1 = grind (arith, nat_tests) in ap (λ m. have_queues (modules.Own m)) (sym e) ∙ has
