-- What modules of a user's own do on a pair's streams, for one that puts A in place of a, as worked out by hand (streamio(7I): I_PUSH, I_LOOK, I_STR;
-- STREAMS Programming Guide, "Modules").
use Rattle.strm_rows.proofs.Prelude.{ℕ, ◌≡◌, true, false, List, [], ◌∷◌, ◌++◌, map, refl, None, Option, Some, Name, Open, Einval}
use Rattle.strm_rows.proofs.Prelude.{Master, Slave, Up, Down, SlaveToMaster, Write, Iocack, Ioctl, Flush, Written, Tagged, plain, tagged, cells_of}
use Rattle.strm_rows.proofs.Prelude.{Parcel, caller_of, called, carried, module_named, refused_by_state, put_in, State, Standing, new_stream, opening}
use Rattle.strm_rows.proofs.Prelude.{with_stream, header, ordinary, proto, without_parts, chunk_count, data_message, rank_of, band_of, size_of}
use Rattle.strm_rows.proofs.Prelude.{is_high_priority, no_own, module_name}
use Rattle.strm_types.specs.declared.events.Event.TheVariants.{Look, Pop, Push}
use Rattle.strm_types.specs.declared.names.ModuleName.{ModuleName}
use Rattle.strm_types.specs.declared.names.ModuleName.TheVariants as names
use Rattle.strm_types.specs.declared.refusals.Refusal.{Refusal}
use Rattle.strm_types.specs.declared.spots.Spot.{Spot}
use Rattle.strm_types.specs.Message.{Message}
use Rattle.strm_laws.specs.Behaviours.{Behaviour}
use Rattle.strm_laws.specs.Pushes.{may_stand, named_by}
use Rattle.strm_laws.specs.Stacked.{Module, OfOwn}
use Rattle.strm_laws.proofs.EitherOwn.{either}
use Rattle.strm_rows.proofs.CodePage.{code_page, page_command}

-- a pair that is open, of which the slave's stream has these modules
abbrev pair : {C : Type 0} → List (Standing C) → State C
pair ps =
    with_stream Master (record new_stream { opened = Open }) (with_stream Slave (record new_stream { opened = Open; modules = ps }) opening)

abbrev page : {C : Type 0} → Standing C
page = module_named code_page (names.Own 3)

abbrev settings_of : {C : Type 0} → Module C → List ℕ
settings_of (OfOwn o) = o.settings
settings_of _ = []

abbrev settings_on : {C : Type 0} → State C → List (List ℕ)
settings_on s = map (λ p. settings_of p.part) s.ends.slave.modules

-- a push by its number: it stands on top, set as it is at first
abbrev pushed : State ℕ
pushed = (called code_page plain (caller_of Slave) (Push (Some (names.Own 3))) (pair [])).state

pub own-is-pushed : map module_name pushed.ends.slave.modules ≡ names.Own 3 ∷ []
own-is-pushed = refl

pub own-is-set : settings_on pushed ≡ (97 ∷ 65 ∷ []) ∷ []
own-is-set = refl

pub look-names-it : (called code_page plain (caller_of Slave) Look pushed).answer ≡ Name (names.Own 3)
look-names-it = refl

pub pop-takes-it : (called code_page plain (caller_of Slave) Pop pushed).state ≡ pair []
pop-takes-it = refl

-- a number of which there is no module is refused as a name that doesn't exist
abbrev push_refused : ModuleName → Option Refusal
push_refused name = refused_by_state {C = ℕ} code_page (pair []) (caller_of Slave) (Push (Some name))

pub unknown-is-refused : map push_refused (names.Own 3 ∷ names.Own 4 ∷ names.Ptem ∷ []) ≡ None ∷ Some Einval ∷ None ∷ []
unknown-is-refused = refl

pub none-is-known : refused_by_state {C = ℕ} no_own (pair []) (caller_of Slave) (Push (Some (names.Own 3))) ≡ Some Einval
none-is-known = refl

-- one of a number stands once, beside others
pub own-stands-once : map (λ ps. may_stand {C = ℕ} (named_by code_page (Some (names.Own 3))) ps)
    ([] ∷ (page ∷ []) ∷ (module_named code_page (names.Own 4) ∷ []) ∷ (module_named code_page names.Ptem ∷ []) ∷ []) ≡ true ∷ false ∷ true ∷ true ∷ []
own-stands-once = refl

-- what is written goes down through it changed, and each byte is still the one that was written
abbrev written_by : Behaviour → List (Standing ℕ) → List ℕ → List (Message ℕ)
written_by K ps bytes = (called K plain (caller_of Slave) (Write bytes) (pair ps)).state.ends.slave.driver.queue.messages

pub write-goes-through : written_by code_page (page ∷ []) (97 ∷ 98 ∷ 97 ∷ []) ≡ ordinary (65 ∷ 98 ∷ 65 ∷ []) ∷ []
unfolding carried chunk_count data_message rank_of band_of size_of cells_of is_high_priority
write-goes-through = refl

abbrev written : ℕ → ℕ → Tagged
written n b = record { byte = b; origin = Written SlaveToMaster n }

pub origins-stay : (called code_page tagged (caller_of Slave) (Write (97 ∷ 98 ∷ [])) (pair (page ∷ []))).state.ends.slave.driver.queue.messages
    ≡ data_message (written 0 65 ∷ written 1 98 ∷ []) ∷ []
unfolding carried chunk_count data_message rank_of band_of size_of cells_of is_high_priority
origins-stay = refl

-- without it nothing changes
pub no-module-no-change : written_by code_page [] (97 ∷ []) ≡ ordinary (97 ∷ []) ∷ []
unfolding carried chunk_count data_message rank_of band_of size_of cells_of is_high_priority
no-module-no-change = refl

-- modules of two behaviours stand on one stream, each by its number
abbrev two : Behaviour
two = either no_own code_page

pub two-know : map two.knows (2 ∷ 3 ∷ []) ≡ false ∷ true ∷ []
two-know = refl

pub two-go-on : written_by two (module_named two (names.Own 3) ∷ []) (97 ∷ 98 ∷ []) ≡ ordinary (65 ∷ 98 ∷ []) ∷ []
unfolding carried chunk_count data_message rank_of band_of size_of cells_of is_high_priority
two-go-on = refl

-- what it sends of a message that comes up or goes down
abbrev sent : List (Message ℕ) → (here : Spot) → List (List (Parcel ℕ))
sent ms here = map (λ m. (put_in code_page plain here m (pair (page ∷ []))).sent) ms

abbrev at_it : Spot
at_it = record { side = Slave; at = 1; way = Down }

abbrev to : ℕ → Message ℕ → List (Parcel ℕ)
to at m = record { to = record { side = Slave; at = at; way = Up }; message = m } ∷ []

abbrev down : Message ℕ → List (Parcel ℕ)
down m = record { to = record { side = Slave; at = 2; way = Down }; message = m } ∷ []

pub other-messages-pass : sent (proto ∷ without_parts Flush (3 ∷ []) ∷ without_parts Ioctl (header 7 1 0) ∷ []) at_it
    ≡ down proto ∷ down (without_parts Flush (3 ∷ [])) ∷ down (without_parts Ioctl (header 7 1 0)) ∷ []
other-messages-pass = refl

pub data-comes-up-changed : sent (ordinary (97 ∷ 99 ∷ []) ∷ []) (record at_it { way = Up }) ≡ to 0 (ordinary (65 ∷ 99 ∷ [])) ∷ []
data-comes-up-changed = refl

-- an M_IOCTL of its command sets the two bytes, and is answered
abbrev asks : Message ℕ
asks = without_parts Ioctl (header page_command 7 0 ++ 98 ∷ 66 ∷ [])

pub ioctl-is-answered : sent (asks ∷ []) at_it ≡ to 0 (without_parts Iocack (header page_command 7 0)) ∷ []
ioctl-is-answered = refl

pub ioctl-sets-it : settings_on (put_in code_page plain at_it asks (pair (page ∷ []))).state ≡ (98 ∷ 66 ∷ []) ∷ []
ioctl-sets-it = refl
