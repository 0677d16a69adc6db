-- What is noted of a place goes by its nearest earlier queues alone.
use Rattle.strm_laws.proofs.Prelude.{◌≡◌, List, [], ◌∷◌, refl, ap, ◌∙◌, Option}
use Rattle.strm_laws.specs.Prelude.{Place, QueueName, Side, Way, Note, Enable, Room, enable_found}
use Rattle.strm_laws.specs.Earlier.{queue_named}
use Rattle.strm_laws.specs.Puts.{noted}

-- what is noted goes by the nearest earlier queues alone
pub noted-same : (side : Side) (place : Option Place) (one another : Way → Option QueueName) → ((way : Way) → one way ≡ another way)
    → (notes : List Note) (names : List QueueName) → noted side place one notes names ≡ noted side place another notes names
noted-same side place one another same [] names = refl
noted-same side place one another same (Enable way ∷ notes) names = noted-same side place one another same notes (enable_found (queue_named side way place) names)
noted-same side place one another same (Room way ∷ notes) names =
    ap (λ o. noted side place one notes (enable_found o names)) (same way) ∙ noted-same side place one another same notes (enable_found (another way) names)
