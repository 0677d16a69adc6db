-- A module of a user's own, as rows speak of one, and that it owes a stream nothing more: it puts one byte in place of another one in the data parts
-- that pass it, and an M_IOCTL of its command sets the two (STREAMS Programming Guide, "Modules"; streamio(7I): I_STR).
use Rattle.std.proofs.Common.{ℕ, ◌≡◌, ◌≤◌, ◌<◌, Bool, true, false, cond, List, [], ◌∷◌, map, take, refl, sym, ap, ◌∙◌, arith}
use Rattle.std.proofs.lemmas.Bool.{false≢true}
use Rattle.std.proofs.lemmas.Bool.Decides.{nat_tests}
use Rattle.std.proofs.lemmas.List.{length-append, length-map, length-take}
use Rattle.std.proofs.lemmas.List.Sums.{sum_by-cons}
use Rattle.std.specs.List.{AllByRecursion}
use Rattle.std.specs.Prelude.{◌==◌, ◌&&◌, ◌||◌, ◌%◌, count_by, if◌then◌else◌, not, slice_index_or, sum_by, None, Option, Some, option_map}
use Rattle.strm_types.specs.declared.ioctls.Ioc.{Ioc}
use Rattle.strm_types.specs.declared.names.Way.{Way}
use Rattle.strm_types.specs.declared.names.Way.TheVariants.{Up, Down}
use Rattle.strm_types.specs.declared.spots.Spot.{Spot}
use Rattle.strm_types.specs.Acks.{ack_message, acked, payload}
use Rattle.strm_types.specs.Budgets.{Does, Within, emits_at}
use Rattle.strm_types.specs.Cells.{AreCells, Cells, plain}
use Rattle.strm_types.specs.Commands.{is_asked, is_ioctl}
use Rattle.strm_types.specs.Deliver.{Acted, onward, toward}
use Rattle.strm_types.specs.Ioctls.{ioc_bytes, read_ioc}
use Rattle.strm_types.specs.Message.{Message, cells_of, has_parts, is_part, map_message, part, weight_of}
use Rattle.strm_types.specs.Names.{direction_at}
use Rattle.strm_types.specs.Origins.{map_acted}
use Rattle.strm_types.specs.Owns.{Own}
use Rattle.strm_types.specs.Shapes.{Asking, shape_by, shape_of}
use Rattle.strm_types.specs.Tables.{own_does}
use Rattle.strm_types.specs.Write.{chunk_count}
use Rattle.strm_laws.specs.Behaviours.{Behaviour, GoodOwn, OwnPut, blocks_of, part_blocks, passes_all}
use Rattle.strm_laws.specs.GoodMessages.{GoodMessage}
use Rattle.strm_types.proofs.CostsOf.{one-few}
use Rattle.strm_types.proofs.ShapesOf.{asked-shape}
use Rattle.strm_types.proofs.Weights.{count-join}
use Rattle.strm_laws.proofs.GoodHeads.{header-long}
use Rattle.strm_laws.proofs.GoodPtems.{ack-good}
use Rattle.strm_laws.proofs.LdtermKeeps.{onward-weighs}
use Rattle.strm_laws.proofs.NoOwn.{passes-within}
use Rattle.strm_laws.proofs.PutForgets.{parts-forget}
use Rattle.strm_laws.proofs.PutWeights.{no-parts}

-- the command that sets the two bytes
abbrev pub page_command : ℕ
page_command = 67

abbrev page_of : List ℕ → List ℕ
page_of bytes = map (λ b. b % 256) (take 2 bytes)

abbrev pub own_command : Bool → Option Ioc → Option Ioc
own_command asked None = None
own_command asked (Some ioc) = if asked && ioc.command == page_command then Some ioc else None

module _ {C : Type 0} where
  -- the second byte that it is set to, in place of the first one
  abbrev pub exchanged : Cells C → Own → C → C
  exchanged cells x c = if cells.byte c == slice_index_or x.settings 0 0 then cells.mapped (slice_index_or x.settings 1 0) c else c

  abbrev pub changed : Cells C → Own → Message C → Message C
  changed cells x m = record m { body = option_map (map (exchanged cells x)) m.body }

  -- its own M_IOCTL on its way down
  abbrev pub ours : Way → Message C → Option Ioc
  ours Up m = None
  ours Down m = own_command (is_asked m) (read_ioc m.plain)

  abbrev pub page_puts : Option Ioc → Cells C → Spot → Message C → Own → Acted C Own
  page_puts None cells here m x = passes_all here (changed cells x m) x
  page_puts (Some ioc) cells here m x = record {
    state = record x { settings = page_of (payload m.plain) };
    notes = [];
    sent = onward Up here (ack_message ioc []) ∷ [];
    gone = [];
  }

-- what a part has is mapped, and no part comes or goes
module _ {C : Type 0} (g : C → C) where
  same-part : (o : Option (List C)) → is_part (option_map (map g) o) ≡ is_part o
  same-part None = refl
  same-part (Some xs) = refl

  same-blocks : (o : Option (List C)) → part_blocks (option_map (map g) o) ≡ part_blocks o
  same-blocks None = refl
  same-blocks (Some xs) = ap (λ n. chunk_count n) (length-map xs g)

module _ {C : Type 0} (cells : Cells C) (x : Own) where
  -- a test that says the same of a cell with another byte counts as many
  exchanged-weighs : (q : C → Bool) → ((b : ℕ) (c : C) → q (cells.mapped b c) ≡ q c) → (xs : List C) → count_by q (map (exchanged cells x) xs)
      ≡ count_by q xs
  exchanged-weighs q same [] = refl
  exchanged-weighs q same (c ∷ xs) =
      let one = ap (λ b. let n : ℕ = cond b 1 0 in n) (at (cells.byte c == slice_index_or x.settings 0 0)) in
      omega (
        arith,
        one,
        exchanged-weighs q same xs,
        sum_by-cons (λ c. cond (q c) 1 0) c xs,
        sum_by-cons (λ c. cond (q c) 1 0) (exchanged cells x c) (map (exchanged cells x) xs),
      )
    where
      at : (is : Bool) → q (cond is (cells.mapped (slice_index_or x.settings 1 0) c) c) ≡ q c
      at true = same (slice_index_or x.settings 1 0) c
      at false = refl

  part-weighs : (q : C → Bool) → ((b : ℕ) (c : C) → q (cells.mapped b c) ≡ q c) → (o : Option (List C))
      → count_by q (part (option_map (map (exchanged cells x)) o)) ≡ count_by q (part o)
  part-weighs q same None = refl
  part-weighs q same (Some xs) = exchanged-weighs q same xs

  changed-weighs : (q : C → Bool) → ((b : ℕ) (c : C) → q (cells.mapped b c) ≡ q c) → (m : Message C) → weight_of q (changed cells x m) ≡ weight_of q m
  unfolding weight_of cells_of
  changed-weighs q same m =
      omega (
        arith,
        count-join q (part m.control) (part m.body),
        count-join q (part m.control) (part (option_map (map (exchanged cells x)) m.body)),
        part-weighs q same m.body,
      )

  same-shape : (m : Message C) → shape_of (changed cells x m) ≡ shape_of m
  same-shape m = ap (λ b. shape_by (is_part m.control || b) m.kind m.plain) (same-part (exchanged cells x) m.body)

  changed-good : (m : Message C) → GoodMessage m → GoodMessage (changed cells x m)
  changed-good m good = record {
    control = good.control;
    body = λ is. same-part (exchanged cells x) m.body ∙ good.body is;
    bare = λ is. same-part (exchanged cells x) m.body ∙ good.bare is;
    plain = good.plain;
    band = good.band;
    high = good.high;
    header = good.header;
    options = good.options;
  }

-- its own M_IOCTL comes down, and has no parts
ours-down : {C : Type 0} (way : Way) (m : Message C) (ioc : Ioc) → ours way m ≡ Some ioc → way ≡ Down
ours-down Up m ioc is = absurd (cc)
ours-down Down m ioc is = refl

ours-asked : {C : Type 0} (way : Way) (m : Message C) (ioc : Ioc) → ours way m ≡ Some ioc → is_asked m ≡ true
ours-asked Up m ioc is = absurd (cc)
ours-asked Down m ioc is = by (is_asked m) (read_ioc m.plain) is
  where
    by : (asked : Bool) (o : Option Ioc) → own_command asked o ≡ Some ioc → asked ≡ true
    by asked None is = absurd (cc)
    by true (Some known) is = refl
    by false (Some known) is = absurd (cc)

asked-bare : {C : Type 0} (m : Message C) → is_asked m ≡ true → has_parts m ≡ false
asked-bare m is = by (is_ioctl m.kind) (has_parts m) is
  where
    by : (a b : Bool) → (a && not b) ≡ true → b ≡ false
    by true false is = refl
    by true true is = absurd (cc)
    by false b is = absurd (cc)

low-bytes : (bytes : List ℕ) → AllByRecursion (λ b. b < 256) (map (λ b. b % 256) bytes)
low-bytes [] = tt
low-bytes (b ∷ bytes) = (omega arith, low-bytes bytes)

module _ {C : Type 0} (cells : Cells C) (here : Spot) (m : Message C) (x : Own) where
  passes : OwnPut true cells here m x (page_puts None cells here m x)
  passes = record {
    number = refl;
    notes = refl;
    once = λ p tests. (
        let dir = direction_at here.way here.side in
        omega (arith, onward-weighs p here.way here (changed cells x m), changed-weighs cells x (p dir) (tests refl dir) m)
        );
    none_made = λ p. refl;
    unread = tt;
    within = λ cost. (
        let most = sum_by cost (emits_at here (own_does here.way (shape_of m))) in
        let shape = ap (λ s. cost (record { to = toward here.way here; shape = s })) (same-shape cells x m) in
        one-few cost most (toward here.way here) (changed cells x m) (omega (arith, shape, passes-within here cost here.way (shape_of m)))
        );
    kinds = (λ only. refl, tt);
    fits = omega (arith, same-blocks (exchanged cells x) m.body);
    sends = λ good. (changed-good cells x m good, tt);
    stays = λ good. good;
  }

  module _ (ioc : Ioc) (down : here.way ≡ Down) (asked : is_asked m ≡ true) where
    answer-within : Within (page_puts (Some ioc) cells here m x).sent (emits_at here (own_does here.way (shape_of m)))
    answer-within cost =
        let costs = λ (d : Does). sum_by cost (emits_at here d) in
        let shape : own_does Down (shape_of m) ≡ own_does Down Asking = ap (λ shape. own_does Down shape) (asked-shape m asked) in
        let table : own_does here.way (shape_of m) ≡ own_does Down Asking = ap (λ way. own_does way (shape_of m)) down ∙ shape in
        let same : costs (own_does here.way (shape_of m)) ≡ costs (own_does Down Asking) = ap costs table in
        one-few cost (costs (own_does here.way (shape_of m))) (toward Up here) (ack_message ioc []) (omega (arith, same))

    answer-fits : blocks_of {C = C} (ack_message ioc []) ≤ blocks_of m
    answer-fits = let long = length-append (ioc_bytes (acked ioc)) [] in let header = header-long (acked ioc) in omega (arith, long, header)

    answers : OwnPut true cells here m x (page_puts (Some ioc) cells here m x)
    unfolding weight_of cells_of
    answers = record {
      number = refl;
      notes = refl;
      once = λ p tests. sym (no-parts (p (direction_at here.way here.side)) m (asked-bare m asked));
      none_made = λ p. refl;
      unread = tt;
      within = answer-within;
      kinds = (λ only. absurd (false≢true only), tt);
      fits = omega (arith, answer-fits);
      sends = λ good. (ack-good ioc [] (omega arith), tt);
      stays = λ good. record {
        number = good.number;
        few = omega (arith, length-map (take 2 (payload m.plain)) (λ (b : ℕ). b % 256), length-take 2 (payload m.plain));
        bytes = low-bytes (take 2 (payload m.plain));
      };
    }

pub page-put : {C : Type 0} (cells : Cells C) (here : Spot) (m : Message C) (x : Own)
    → OwnPut true cells here m x (page_puts (ours here.way m) cells here m x)
page-put cells here m x = by (ours here.way m) refl
  where
    by : (o : Option Ioc) → ours here.way m ≡ o → OwnPut true cells here m x (page_puts o cells here m x)
    by None is = passes cells here m x
    by (Some ioc) is = answers cells here m x ioc (ours-down here.way m ioc is) (ours-asked here.way m ioc is)

-- whatever stands for bytes
module _ {C : Type 0} (cells : Cells C) (are : AreCells cells) (x : Own) where
  byte-same : (c : C) → exchanged plain x (cells.byte c) ≡ cells.byte (exchanged cells x c)
  byte-same c = by (cells.byte c == slice_index_or x.settings 0 0)
    where
      by : (is : Bool) → let b = slice_index_or x.settings 1 0 in cond is b (cells.byte c) ≡ cells.byte (cond is (cells.mapped b c) c)
      by true = sym (are.byte_mapped (slice_index_or x.settings 1 0) c)
      by false = refl

  bytes-same : (xs : List C) → map (exchanged plain x) (map cells.byte xs) ≡ map cells.byte (map (exchanged cells x) xs)
  bytes-same [] = refl
  bytes-same (c ∷ xs) =
      ap (λ b. b ∷ map (exchanged plain x) (map cells.byte xs)) (byte-same c) ∙ ap (λ bytes. cells.byte (exchanged cells x c) ∷ bytes) (bytes-same xs)

  body-same : (o : Option (List C)) → option_map (map (exchanged plain x)) (option_map (map cells.byte) o)
      ≡ option_map (map cells.byte) (option_map (map (exchanged cells x)) o)
  body-same None = refl
  body-same (Some xs) = ap (λ bytes. Some bytes) (bytes-same xs)

  changed-same : (m : Message C) → changed plain x (map_message cells.byte m) ≡ map_message cells.byte (changed cells x m)
  unfolding map_message
  changed-same m =
      let control : Option (List ℕ) = option_map (map cells.byte) m.control in
      ap (λ (o : Option (List ℕ)). record { kind = m.kind; band = m.band; control = control; body = o; plain = m.plain }) (body-same m.body)

  ours-same : (way : Way) (m : Message C) → ours way (map_message cells.byte m) ≡ ours way m
  unfolding map_message
  ours-same Up m = refl
  ours-same Down m = ap (λ parts. own_command (is_ioctl m.kind && not parts) (read_ioc m.plain)) (parts-forget cells.byte m)

  puts-same : (o : Option Ioc) (here : Spot) (m : Message C) → page_puts o plain here (map_message cells.byte m) x
      ≡ map_acted cells.byte (λ (y : Own). y) (page_puts o cells here m x)
  unfolding map_message
  puts-same None here m = ap (λ (n : Message ℕ). record { state = x; notes = []; sent = onward here.way here n ∷ []; gone = [] }) (changed-same m)
  puts-same (Some ioc) here m = refl

  pub page-forgets : (here : Spot) (m : Message C)
      → page_puts (ours here.way (map_message cells.byte m)) plain here (map_message cells.byte m) x
      ≡ map_acted cells.byte (λ (y : Own). y) (page_puts (ours here.way m) cells here m x)
  page-forgets here m = ap (λ o. page_puts o plain here (map_message cells.byte m) x) (ours-same here.way m) ∙ puts-same (ours here.way m) here m

-- the module's number is 3, and it puts A in place of a where nobody has set it
pub page-good : (n : ℕ) → (n == 3) ≡ true → GoodOwn (record { number = n; settings = 97 ∷ 65 ∷ [] })
page-good n is =
    let e : n ≡ 3 = grind (arith, nat_tests) in record { number = omega (arith, e); few = omega arith; bytes = (omega arith, (omega arith, tt)) }

abbrev pub code_page : Behaviour
code_page = record {
  knows = λ n. n == 3;
  fresh = λ n. 97 ∷ 65 ∷ [];
  puts = λ cells here m x. page_puts (ours here.way m) cells here m x;
  changes = true;
  holds = λ here m x. false;
  goes = λ way ms x. true;
  good = page-good;
  put = λ cells here m x. page-put cells here m x;
  forgets = λ cells are here m x. page-forgets cells are x here m;
}
