-- Deliveries of cells, and of what the cells are mapped to, as where their origins are forgotten.
use Rattle.std.specs.Prelude.{◌≡◌, map}
use Rattle.strm_types.specs.declared.spots.Spot.{Spot}
use Rattle.strm_types.specs.Message.{Message, map_message}
use Rattle.strm_types.specs.Deliver.{Acted, Parcel, Fate, Goes, Comes, Took, Carried}

module _ {C D : Type 0} (f : C → D) where
  abbrev pub map_parcel : Parcel C → Parcel D
  map_parcel q = record { to = q.to; message = map_message f q.message }

  abbrev pub map_fate : Fate C → Fate D
  map_fate (Goes direction rule cells) = Goes direction rule (map f cells)
  map_fate (Comes direction cells) = Comes direction (map f cells)

  module _ {S T : Type 0} (g : S → T) where
    abbrev pub map_took : Took C S → Took D T
    map_took t = record { state = g t.state; sent = map map_parcel t.sent; gone = map map_fate t.gone }

    abbrev pub map_acted : Acted C S → Acted D T
    map_acted t = record { state = g t.state; notes = t.notes; sent = map map_parcel t.sent; gone = map map_fate t.gone }

    abbrev pub map_carried : Carried C S → Carried D T
    map_carried t = record { state = g t.state; gone = map map_fate t.gone }

    -- a put does the same to what is mapped
    abbrev pub PutsAgree : (Spot → Message C → S → Took C S) → (Spot → Message D → T → Took D T) → Type 0
    PutsAgree put put' = (to : Spot) (m : Message C) (s : S) → put' to (map_message f m) (g s) ≡ map_took (put to m s)

    -- and so does the carrying of a message
    abbrev pub CarriesAgree : (Parcel C → S → Carried C S) → (Parcel D → T → Carried D T) → Type 0
    CarriesAgree carry carry' = (q : Parcel C) (s : S) → carry' (map_parcel q) (g s) ≡ map_carried (carry q s)
