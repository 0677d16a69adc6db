-- A put at pckt loses no cell, makes none but those that it tells, as many as its table says, and does the same where the origins of cells are
-- forgotten.
use Rattle.strm_laws.proofs.Prelude.{ℕ, suc, ◌≡◌, ◌≤◌, ◌+◌, ◌*◌, Bool, true, false, cond, List, [], ◌∷◌, ◌++◌, length, map, refl, sym, ap, subst, ◌∙◌}
use Rattle.strm_laws.proofs.Prelude.{arith, map-append, ◌&&◌, not, None, Some, option_map, count_by, made-forget, passed_made, puts-each, count-join}
use Rattle.strm_laws.proofs.Prelude.{weight-whole}
use Rattle.strm_laws.specs.Prelude.{MsgKind, Proto, Dir, Way, Up, Down, Spot, AreCells, Cells, cells_made, plain, Acted, toward, onward, Comes}
use Rattle.strm_laws.specs.Prelude.{asked_by, flush_bytes, made_of, kind_number, Message, band_of, cells_of, has_parts, map_message, weight_of}
use Rattle.strm_laws.specs.Prelude.{direction_at, map_acted, map_parcel, Pckt, flush_passed, is_flush_passed, is_packed, packet, pckt_on_way}
use Rattle.strm_laws.specs.Prelude.{pckt_packs, pckt_passes, pckt_puts, plain_packed, shape_of}
use Rattle.strm_types.specs.Costs.{packs_on_way}
use Rattle.strm_types.specs.Pckts.{is_bare_packet, is_stop_or_start, kind_made, pckt_dir, plain_made}
use Rattle.strm_types.specs.Tables.{pckt_does}
use Rattle.strm_laws.specs.Places.{direction_to, weight_gone, weight_made, weight_sent}
use Rattle.strm_laws.specs.Spares.{packet_most}
use Rattle.strm_laws.proofs.Forgetting.{cells-forget}
use Rattle.strm_laws.proofs.LdtermKeeps.{onward-weighs}
use Rattle.strm_types.proofs.MadeCells.{made-same}
use Rattle.strm_types.proofs.PcktPuts.{packs-make, packs_made}
use Rattle.strm_types.proofs.PcktWithin.{pckt-makes}
use Rattle.strm_laws.proofs.PutForgets.{parts-forget}
use Rattle.strm_laws.proofs.PutWeights.{no-parts, weight-flush}

-- what has no data part in its packet has no cells
bare-parts : (stops parts : Bool) → (stops && not parts) ≡ true → parts ≡ false
bare-parts true false is = refl
bare-parts true true is = absurd (cc)
bare-parts false parts is = absurd (cc)

module _ {C : Type 0} (p : C → Bool) where
  -- a packet has the cells of its message and those that were made
  module _ (cells : Cells C) (made : ℕ) (here : Spot) (m : Message C) where
    packet-weight : weight_of p (packet cells made here m) ≡ weight_of p m + count_by p (kind_made cells made here m ∷ plain_made cells made here m)
    unfolding weight_of cells_of
    packet-weight = at (is_bare_packet m) refl
      where
        kind : C
        kind = kind_made cells made here m

        rest : List C
        rest = cells_made cells (pckt_dir cells made here) (suc made) m.plain

        at : (bare : Bool) → is_bare_packet m ≡ bare → weight_of p (record { kind = Proto; band = band_of m; control = Some (kind ∷ []); body = cond bare None (Some (cells_of m ++ cells_made cells (pckt_dir cells made here) (suc made) (cond bare [] m.plain))); plain = [] })
            ≡ weight_of p m + count_by p (kind ∷ cells_made cells (pckt_dir cells made here) (suc made) (cond bare [] m.plain))
        at true is = let none = no-parts p m (bare-parts (is_stop_or_start m.kind) (has_parts m) is) in omega (arith, none, count-join p (kind ∷ []) [])
        at false is =
            let all = count-join p (kind ∷ []) (cells_of m ++ rest) in
            let both = count-join p (cells_of m) rest in
            let new = count-join p (kind ∷ []) rest in
            let whole = weight-whole p m in
            omega arith

module _ {C : Type 0} (p : Dir → C → Bool) where
  passed-weight : (here : Spot) (kind : MsgKind) (bytes : List ℕ) → weight_sent p (flush_passed {C = C} here kind bytes) ≡ 0
  passed-weight here kind bytes = at (is_flush_passed kind bytes)
    where
      at : (goes : Bool) → weight_sent {C = C} p (passed_made here bytes goes) ≡ 0
      at true = omega (arith, weight-flush (p (direction_to (toward Up here))) (flush_bytes (record (asked_by bytes) { for_read = false })))
      at false = refl

  pub puts-keep : (cells : Cells C) (made : ℕ) (here : Spot) (m : Message C) → let t = pckt_puts cells made here m in
      weight_sent p t.sent + weight_gone p t.gone ≡ weight_of (p (direction_at here.way here.side)) m + weight_made p t.gone
  puts-keep cells made here m =
      puts-each cells made here m (λ t. weight_sent p t.sent + weight_gone p t.gone ≡ weight_of (p (direction_at here.way here.side)) m + weight_made p t.gone) (omega (arith, onward-weighs p here.way here m))
      (λ way is. omega (
        arith,
        onward-weighs p Up here (packet cells made here m),
        packet-weight (p (direction_at Up here.side)) cells made here m,
        passed-weight here m.kind m.plain,
        ap (λ way. weight_of (p (direction_at way here.side)) m) way,
      ))

module _ {C D : Type 0} (f : C → D) where
  abbrev image : Acted C Pckt → Acted D Pckt
  image t = map_acted f (λ (q : Pckt). q) t

  passed-forgets : (here : Spot) (kind : MsgKind) (bytes : List ℕ) → flush_passed here kind bytes ≡ map (map_parcel f) (flush_passed here kind bytes)
  unfolding map_message
  passed-forgets here kind bytes = at (is_flush_passed kind bytes)
    where
      at : (goes : Bool) → passed_made here bytes goes ≡ map (map_parcel f) (passed_made here bytes goes)
      at true = refl
      at false = refl

  packs_made-forgets : (here : Spot) (kind : MsgKind) (bytes : List ℕ) (band : ℕ) (bare : Bool) (number : C) (own rest : List C) →
      packs_made here kind bytes band bare (f number) (map f own) (map f rest) ≡ image (packs_made here kind bytes band bare number own rest)
  unfolding map_message
  packs_made-forgets here kind bytes band bare number own rest =
      rw (passed-forgets here kind bytes, body bare) refl
    where
      body : (bare : Bool) → cond bare None (Some (map f own ++ map f rest)) ≡ option_map (map f) (cond bare None (Some (own ++ rest)))
      body true = refl
      body false = ap Some (sym (map-append f own rest))

module _ {C : Type 0} (cells : Cells C) (are : AreCells cells) (made : ℕ) (here : Spot) (m : Message C) where
  abbrev f : C → ℕ
  f = cells.byte

  bare-forgets : is_bare_packet (map_message f m) ≡ is_bare_packet m
  unfolding map_message
  bare-forgets = ap (λ parts. is_stop_or_start m.kind && not parts) (parts-forget f m)

  packs-forget : pckt_packs plain made here (map_message f m) ≡ image f (pckt_packs cells made here m)
  unfolding map_message band_of
  packs-forget =
      let number = kind_number m.kind in
      let with_rest : Bool → List ℕ → Acted ℕ Pckt = λ bare rest. packs_made here m.kind m.plain (band_of m) bare number (cells_of (map_message f m)) rest in
      let own = kind_made cells made here m in
      let rest = plain_made cells made here m in
      ap (λ bare. with_rest bare (cells_made plain (pckt_dir cells made here) (suc made) (cond bare [] m.plain))) bare-forgets
      ∙ ap (with_rest (is_bare_packet m)) (made-forget cells are (pckt_dir cells made here) (suc made) (plain_packed m))
      ∙ ap (λ n. packs_made here m.kind m.plain (band_of m) (is_bare_packet m) n (cells_of (map_message f m)) (map f rest)) (sym (are.byte_made (pckt_dir cells made here) made number))
      ∙ ap (λ xs. packs_made here m.kind m.plain (band_of m) (is_bare_packet m) (f own) xs (map f rest)) (cells-forget f m)
      ∙ packs_made-forgets f here m.kind m.plain (band_of m) (is_bare_packet m) own (cells_of m) rest

  pub puts-forget : pckt_puts plain made here (map_message f m) ≡ image f (pckt_puts cells made here m)
  unfolding map_message
  puts-forget = at here.way
    where
      kinds : (packed : Bool) → cond packed (pckt_packs plain made here (map_message f m)) (pckt_passes here (map_message f m)) ≡ image f (cond packed (pckt_packs cells made here m) (pckt_passes here m))
      kinds true = packs-forget
      kinds false = refl

      at : (way : Way) → pckt_on_way plain made here way (map_message f m) ≡ image f (pckt_on_way cells made here way m)
      at Up = kinds (is_packed m.kind)
      at Down = refl

-- how much it makes
module _ {C : Type 0} (cells : Cells C) (made : ℕ) (here : Spot) (m : Message C) (small : length m.plain ≤ 16777216) where
  plain-few : length (plain_packed m) ≤ 16777216
  plain-few = grind (arith, small)

  packs-fit : made_of (pckt_puts cells made here m).gone ≤ packs_on_way here.way m * packet_most
  packs-fit = at here.way
    where
      at : (way : Way) → made_of (pckt_on_way cells made here way m).gone ≤ packs_on_way way m * packet_most
      at Up = grind (arith, packs-make cells made here m, plain-few)
      at Down = omega arith

  pub puts-make : made_of (pckt_puts cells made here m).gone ≤ (pckt_does here.way (shape_of m)).makes * packet_most
  puts-make = subst (λ (n : ℕ). made_of (pckt_puts cells made here m).gone ≤ n * packet_most) (sym (pckt-makes here m)) packs-fit

-- over plain bytes it is the same whatever was made before
module _ (a b : ℕ) (here : Spot) (m : Message ℕ) where
  packs-same : pckt_packs plain a here m ≡ pckt_packs plain b here m
  packs-same = ap packed (made-same (direction_at Up here.side) (suc a) (suc b) (plain_packed m))
    where
      packed : List ℕ → Acted ℕ Pckt
      packed made = record {
        state = record {};
        notes = [];
        sent = onward Up here (record {
          kind = Proto;
          band = band_of m;
          control = Some (kind_made plain a here m ∷ []);
          body = cond (is_bare_packet m) None (Some (cells_of m ++ made));
          plain = [];
        }) ∷ flush_passed here m.kind m.plain;
        gone = Comes (direction_at Up here.side) (kind_made plain a here m ∷ made) ∷ [];
      }

  pub puts-same : pckt_puts plain a here m ≡ pckt_puts plain b here m
  puts-same = at here.way
    where
      at : (way : Way) → pckt_on_way plain a here way m ≡ pckt_on_way plain b here way m
      at Up = ap (λ t. cond (is_packed m.kind) t (pckt_passes here m)) packs-same
      at Down = refl
