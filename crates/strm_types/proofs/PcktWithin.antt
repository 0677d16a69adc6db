-- A put at pckt keeps within its table.
use Rattle.std.proofs.Common.{ℕ, ◌≡◌, ◌≤◌, Bool, true, false, cond, List, [], ◌∷◌, refl, sym, ap, subst, ◌∙◌, arith}
use Rattle.std.specs.Prelude.{sum_by}
use Rattle.strm_types.specs.declared.kinds.MsgKind.{MsgKind}
use Rattle.strm_types.specs.declared.kinds.MsgKind.TheVariants as kinds
use Rattle.strm_types.specs.declared.names.ModuleName.{ModuleName}
use Rattle.strm_types.specs.declared.names.ModuleName.TheVariants as names
use Rattle.strm_types.specs.declared.names.Way.{Way}
use Rattle.strm_types.specs.declared.names.Way.TheVariants.{Up, Down}
use Rattle.strm_types.specs.declared.spots.Spot.{Spot}
use Rattle.strm_types.specs.Budgets.{Does, Within, cost_of, emits_at}
use Rattle.strm_types.specs.Cells.{Cells}
use Rattle.strm_types.specs.Costs.{packs_on_way, pckt_takes, pckt_takes_on}
use Rattle.strm_types.specs.Deliver.{Parcel, toward, onward}
use Rattle.strm_types.specs.Flushing.{asked_by, flush_bytes, flush_message}
use Rattle.strm_types.specs.Message.{Message, has_parts}
use Rattle.strm_types.specs.Pckts.{Pckt, is_flush_passed, is_packed, packet, pckt_on_way, pckt_packs, pckt_passes, pckt_puts, writers_flush}
use Rattle.strm_types.specs.Shapes.{At, Shape, Held, Asking, Acking, FlushW, shape_of}
use Rattle.strm_types.specs.Tables.{name_does, packs, packs_flush, passes_on, pckt_does}
use Rattle.strm_types.proofs.CostsOf.{more-few, one-few}
use Rattle.strm_types.proofs.ShapesOf.{packed_shape, passed_shape, same-packed, same-passed, writes-shape}

-- the table, by what pckt looks at
abbrev by_looks : Bool → Bool → Shape → Does
by_looks packed passed shape = cond packed (cond passed packs_flush packs) (passes_on Up shape)

table-looks : (shape : Shape) → pckt_does Up shape ≡ by_looks (packed_shape shape) (passed_shape shape) shape
table-looks Held = refl
table-looks Acking = refl
table-looks _ = refl

module _ {C : Type 0} (m : Message C) where
  pub pckt-looks : pckt_does Up (shape_of m) ≡ by_looks (is_packed m.kind) (is_flush_passed m.kind m.plain) (shape_of m)
  pckt-looks =
      table-looks (shape_of m)
      ∙ ap (λ packed. by_looks packed (passed_shape (shape_of m)) (shape_of m)) (same-packed (has_parts m) m.kind m.plain)
      ∙ ap (λ passed. by_looks (is_packed m.kind) passed (shape_of m)) (same-passed (has_parts m) m.kind m.plain)

module _ {C : Type 0} (here : Spot) (cost : At → ℕ) (m : Message C) where
  abbrev costs : Does → ℕ
  costs d = sum_by cost (emits_at here d)

  module _ (cells : Cells C) (made : ℕ) where
    abbrev passed : Bool → List (Parcel C)
    passed goes = cond goes (writers_flush here (asked_by m.plain) ∷ []) []

    -- its packet, and what is passed behind it of an M_FLUSH
    packs-fit : (goes : Bool) → is_flush_passed m.kind m.plain ≡ goes → cost_of cost (onward Up here (packet cells made here m) ∷ passed goes) ≤ costs (cond goes packs_flush packs)
    packs-fit true is =
        let asked = asked_by m.plain in
        let flush = flush_message {C = C} (flush_bytes (record asked { for_read = false })) in
        let shape = ap (λ s. cost (record { to = toward Up here; shape = s })) (writes-shape C asked (writes m.kind is)) in
        let behind = one-few cost (cost (record { to = toward Up here; shape = FlushW })) (toward Up here) flush (omega (arith, shape)) in
        more-few cost (costs packs_flush) (toward Up here) (packet cells made here m) (onward Up here flush ∷ []) (omega (arith, behind))
      where
        writes : (kind : MsgKind) → is_flush_passed kind m.plain ≡ true → (asked_by m.plain).for_write ≡ true
        writes kinds.Flush is = is
        writes _ is = absurd (cc)
    packs-fit false is = one-few cost (costs packs) (toward Up here) (packet cells made here m) (omega arith)

    -- what passes as it is
    goes : (way : Way) → here.way ≡ way → cost_of cost (pckt_passes here m).sent ≤ costs (passes_on way (shape_of m))
    goes way is = one-few cost (costs (passes_on way (shape_of m))) (toward here.way here) m (let same = ap (λ w. cost (record { to = toward w here; shape = shape_of m })) is in omega (arith, same))

    up-fits : here.way ≡ Up → (packed : Bool) → is_packed m.kind ≡ packed
        → cost_of cost (cond packed (pckt_packs cells made here m) (pckt_passes here m)).sent ≤ costs (by_looks packed (is_flush_passed m.kind m.plain) (shape_of m))
    up-fits way true is = packs-fit (is_flush_passed m.kind m.plain) refl
    up-fits way false is = goes Up way

    pub pckt-fits : cost_of cost (pckt_puts cells made here m).sent ≤ costs (pckt_does here.way (shape_of m))
    pckt-fits = at here.way refl
      where
        at : (way : Way) → here.way ≡ way → cost_of cost (pckt_on_way cells made here way m).sent ≤ costs (pckt_does way (shape_of m))
        at Up is = subst (λ d. cost_of cost (pckt_on_way cells made here Up m).sent ≤ costs d) (sym (pckt-looks m)) (up-fits is (is_packed m.kind) refl)
        at Down is = goes Down is

pub pckt-within : {C : Type 0} (cells : Cells C) (made : ℕ) (here : Spot) (m : Message C) → Within (pckt_puts cells made here m).sent (emits_at here (pckt_does here.way (shape_of m)))
pckt-within cells made here m cost = pckt-fits here cost m cells made

-- what a packet takes, and how many of them are made
pub pckt-own : {C : Type 0} (here : Spot) (m : Message C) → (pckt_does here.way (shape_of m)).own ≡ pckt_takes here m
pckt-own here m = at here.way
  where
    looks : (packed passed : Bool) → (by_looks packed passed (shape_of m)).own ≡ cond packed (cond passed 2 1) 0
    looks true true = refl
    looks true false = refl
    looks false passed = refl

    at : (way : Way) → (pckt_does way (shape_of m)).own ≡ pckt_takes_on way m.kind m.plain
    at Up = ap (λ (d : Does). d.own) (pckt-looks m) ∙ looks (is_packed m.kind) (is_flush_passed m.kind m.plain)
    at Down = refl

pub pckt-makes : {C : Type 0} (here : Spot) (m : Message C) → (pckt_does here.way (shape_of m)).makes ≡ packs_on_way here.way m
pckt-makes here m = at here.way
  where
    looks : (packed passed : Bool) → (by_looks packed passed (shape_of m)).makes ≡ cond packed 1 0
    looks true true = refl
    looks true false = refl
    looks false passed = refl

    at : (way : Way) → (pckt_does way (shape_of m)).makes ≡ packs_on_way way m
    at Up = ap (λ (d : Does). d.makes) (pckt-looks m) ∙ looks (is_packed m.kind) (is_flush_passed m.kind m.plain)
    at Down = refl

-- no module makes more packets than it takes blocks, and none more than one
pub makes-own : (name : ModuleName) (way : Way) (shape : Shape) → (name_does name way shape).makes ≤ (name_does name way shape).own
makes-own names.Ldterm Up Acking = omega arith
makes-own names.Ldterm way shape = omega arith
makes-own names.Ptem Up Asking = omega arith
makes-own names.Ptem Down Asking = omega arith
makes-own names.Ptem way shape = omega arith
makes-own names.Pckt Up Held = omega arith
makes-own names.Pckt Up _ = omega arith
makes-own names.Pckt Down shape = omega arith
makes-own (names.Own n) Down Asking = omega arith
makes-own (names.Own n) way shape = omega arith

pub makes-one : (name : ModuleName) (way : Way) (shape : Shape) → (name_does name way shape).makes ≤ 1
makes-one names.Ldterm Up Acking = omega arith
makes-one names.Ldterm way shape = omega arith
makes-one names.Ptem Up Asking = omega arith
makes-one names.Ptem Down Asking = omega arith
makes-one names.Ptem way shape = omega arith
makes-one names.Pckt Up Held = omega arith
makes-one names.Pckt Up _ = omega arith
makes-one names.Pckt Down shape = omega arith
makes-one (names.Own n) Down Asking = omega arith
makes-one (names.Own n) way shape = omega arith
