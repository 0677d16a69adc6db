-- A put at pckt: how many cells it makes.
use Rattle.std.proofs.Common.{ℕ, suc, ◌≡◌, ◌+◌, ◌-◌, Bool, true, false, cond, List, [], ◌∷◌, ◌++◌, length, refl, ap, ◌∙◌, arith}
use Rattle.std.specs.Prelude.{Option, None, Some}
use Rattle.strm_types.specs.declared.kinds.MsgKind.{MsgKind}
use Rattle.strm_types.specs.declared.kinds.MsgKind.TheVariants.{Proto}
use Rattle.strm_types.specs.declared.names.Way.{Way}
use Rattle.strm_types.specs.declared.names.Way.TheVariants.{Up, Down}
use Rattle.strm_types.specs.declared.spots.Spot.{Spot}
use Rattle.strm_types.specs.Cells.{Cells, plain}
use Rattle.strm_types.specs.Deliver.{Acted, Comes, Parcel, onward}
use Rattle.strm_types.specs.Flushing.{asked_by}
use Rattle.strm_types.specs.Input.{made_of}
use Rattle.strm_types.specs.Kinds.{kind_number}
use Rattle.strm_types.specs.Message.{Message, band_of, cells_of}
use Rattle.strm_types.specs.Pckts.{Pckt, flush_passed, is_bare_packet, is_packed, pckt_dir, pckt_on_way, pckt_packs, pckt_passes, pckt_puts, plain_packed, writers_flush}
use Rattle.strm_types.specs.Names.{direction_at}
use Rattle.strm_types.proofs.MadeCells.{made-long, made-same}

-- an M_PROTO for a packet, whose control part is one cell, and the M_FLUSH that is passed
abbrev pub proto_made : {E : Type 0} → ℕ → E → Option (List E) → Message E
proto_made band number body = record { kind = Proto; band = band; control = Some (number ∷ []); body = body; plain = [] }

abbrev pub passed_made : {E : Type 0} → Spot → List ℕ → Bool → List (Parcel E)
passed_made here bytes goes = cond goes (writers_flush here (asked_by bytes) ∷ []) []

abbrev pub gone_up : {E : Type 0} → Spot → Message E → List (Parcel E) → List E → Acted E Pckt
gone_up here m passed new = record { state = record {}; notes = []; sent = onward Up here m ∷ passed; gone = Comes (direction_at Up here.side) new ∷ [] }

-- What goes up in place of a message, by the number of its kind, its own cells and those that were made behind that number.
abbrev pub packs_made : {E : Type 0} → Spot → MsgKind → List ℕ → ℕ → Bool → E → List E → List E → Acted E Pckt
packs_made here kind bytes band bare number own rest = gone_up here (proto_made band number (cond bare None (Some (own ++ rest)))) (flush_passed here kind bytes) (number ∷ rest)

-- What holds of a message that passes, and of its packet where it gets one, holds of the put.
module _ {C : Type 0} (cells : Cells C) (made : ℕ) (here : Spot) (m : Message C) (P : Acted C Pckt → Type 0) (passes : P (pckt_passes here m)) where
  pub puts-each : (here.way ≡ Up → is_packed m.kind ≡ true → P (pckt_packs cells made here m)) → P (pckt_puts cells made here m)
  puts-each packs = at here.way refl
    where
      kinds : here.way ≡ Up → (packed : Bool) → is_packed m.kind ≡ packed → P (cond packed (pckt_packs cells made here m) (pckt_passes here m))
      kinds up true is = packs up is
      kinds up false is = passes

      at : (way : Way) → here.way ≡ way → P (pckt_on_way cells made here way m)
      at Up is = kinds is (is_packed m.kind) refl
      at Down is = passes

module _ {C : Type 0} (cells : Cells C) (made : ℕ) (here : Spot) (m : Message C) where
  pub puts-notes : (pckt_puts cells made here m).notes ≡ []
  puts-notes = puts-each cells made here m (λ t. t.notes ≡ []) refl (λ way is. refl)

  -- how many are made
  pub packs-make : made_of (pckt_packs cells made here m).gone ≡ suc (length (plain_packed m))
  packs-make = let long = made-long cells (pckt_dir cells made here) (suc made) (plain_packed m) in omega arith

  pub packed-makes : here.way ≡ Up → is_packed m.kind ≡ true → made_of (pckt_puts cells made here m).gone ≡ suc (length (plain_packed m))
  packed-makes way is =
      ap (λ way. made_of (pckt_on_way cells made here way m).gone) way
      ∙ ap (λ b. made_of (cond b (pckt_packs cells made here m) (pckt_passes here m)).gone) is
      ∙ packs-make

  pub passed-down : here.way ≡ Down → pckt_puts cells made here m ≡ pckt_passes here m
  passed-down way = ap (λ way. pckt_on_way cells made here way m) way

  pub passed-up : is_packed m.kind ≡ false → pckt_puts cells made here m ≡ pckt_passes here m
  passed-up is = at here.way
    where
      at : (way : Way) → pckt_on_way cells made here way m ≡ pckt_passes here m
      at Up = ap (λ b. cond b (pckt_packs cells made here m) (pckt_passes here m)) is
      at Down = refl

-- Plain bytes are the same whichever cells were made before.
pub puts-same : (a b : ℕ) (here : Spot) (m : Message ℕ) → pckt_puts plain a here m ≡ pckt_puts plain b here m
puts-same a b here m = at here.way
  where
    packs : pckt_packs plain a here m ≡ pckt_packs plain b here m
    packs = ap (packs_made here m.kind m.plain (band_of m) (is_bare_packet m) (kind_number m.kind) (cells_of m)) (made-same (direction_at Up here.side) (suc a) (suc b) (plain_packed m))

    at : (way : Way) → pckt_on_way plain a here way m ≡ pckt_on_way plain b here way m
    at Up = ap (λ t. cond (is_packed m.kind) t (pckt_passes here m)) packs
    at Down = refl
