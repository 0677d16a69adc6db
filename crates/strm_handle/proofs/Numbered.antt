-- Where no module of a user's own is known, each enabled queue has a number.
use Rattle.std.proofs.Common.{◌≡◌, true, List, [], ◌∷◌, refl}
use Rattle.strm_types.specs.declared.names.ModuleName.TheVariants as modules
use Rattle.strm_types.specs.declared.names.Place.{Place}
use Rattle.strm_types.specs.declared.names.Place.TheVariants.{Head, Module, Driver}
use Rattle.strm_types.specs.declared.names.QueueName.{QueueName}
use Rattle.strm_types.specs.Names.{AreQueues, has_queues_at}
use Rattle.strm_laws.proofs.NoOwn.{none as no_own}
use Rattle.strm_pair.specs.Enabling.{AreKnownThere, is_known_at}
use Rattle.strm_handle.specs.Numbers.{AreNumbered, has_number}

one : (place : Place) → has_queues_at place ≡ true → is_known_at no_own place ≡ true → has_number place ≡ true
one Head has known = refl
one Driver has known = refl
one (Module modules.Ldterm) has known = refl
one (Module modules.Ptem) has known = absurd (cc)
one (Module modules.Pckt) has known = absurd (cc)
one (Module (modules.Own n)) has known = absurd (cc)

pub numbered : (names : List QueueName) → AreQueues names → AreKnownThere no_own names → AreNumbered names
numbered [] are known = tt
numbered (n ∷ names) are known = (one n.place are.0 known.0, numbered names are.1 known.1)
