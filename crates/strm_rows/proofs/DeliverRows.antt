-- What the definitions of delivery, of modules and of rules compute, on small cases.
use Rattle.strm_rows.proofs.Prelude.{ℕ, ◌≡◌, true, false, List, [], ◌∷◌, ◌++◌, map, refl, None, Some, ◌==◌, Slave, MasterToSlave, SlaveToMaster, Up}
use Rattle.strm_rows.proofs.Prelude.{Down, Ptem, Pckt, Spot, Enable, Room, Message, data_message, no_fates, Parcel, Took, Acted, carried, Fate, Goes}
use Rattle.strm_rows.proofs.Prelude.{Comes}
use Rattle.std.specs.Prelude.{◌+◌, ◌-◌, ◌^◌, take, if◌then◌else◌}
use Rattle.strm_types.specs.declared.names.Place.TheVariants as places
use Rattle.strm_types.specs.declared.names.ModuleName.{ModuleName}
use Rattle.strm_types.specs.declared.names.ModuleName.TheVariants.{Ldterm}
use Rattle.strm_types.specs.declared.rules.Rule.TheVariants as rules
use Rattle.strm_types.specs.Names.{place_of, same_module, direction_at}
use Rattle.strm_types.specs.Rules.{number_of, told_more, made_more}
use Rattle.strm_types.specs.Deliver.{toward, tallied}
use Rattle.strm_types.specs.Origins.{map_fate}
use Rattle.strm_laws.specs.Places.{weight_gone, weight_made}
use Rattle.strm_types.specs.Modules.{may_push, top_name, put_among}

pub rules-have-numbers : map number_of (rules.Read ∷ rules.Igncr ∷ rules.EraseKey ∷ rules.Erased ∷ rules.Killed ∷ rules.EofKey ∷ rules.SignalKey ∷ rules.FlowKey ∷ rules.LnextKey ∷ rules.ReprintKey ∷ rules.LineFull ∷ rules.LineOver ∷ rules.Flushed ∷ rules.RestDiscarded ∷ rules.ControlDropped ∷ rules.Doubled ∷ rules.ModulePopped ∷ rules.EndClosed ∷ rules.Replaced ∷ rules.Onocr ∷ rules.EchoFull ∷ []) ≡ 0 ∷ 1 ∷ 2 ∷ 3 ∷ 4 ∷ 5 ∷ 6 ∷ 7 ∷ 8 ∷ 9 ∷ 10 ∷ 11 ∷ 12 ∷ 13 ∷ 14 ∷ 15 ∷ 16 ∷ 17 ∷ 18 ∷ 19 ∷ 20 ∷ []
rules-have-numbers = refl

-- bytes are told by their rule in their direction
pub told-in-its-direction : (told_more SlaveToMaster rules.Erased 2 (told_more MasterToSlave rules.Igncr 5 no_fates)).from_master ≡ (told_more MasterToSlave rules.Igncr 5 no_fates).from_master
told-in-its-direction = refl

pub told-by-its-rule : take 4 (told_more SlaveToMaster rules.Erased 2 (told_more SlaveToMaster rules.Erased 5 no_fates)).from_slave ≡ 0 ∷ 0 ∷ 0 ∷ 7 ∷ []
told-by-its-rule = refl

-- and what is made is counted in its own, modulo 2^64
pub made-in-its-direction : (made_more SlaveToMaster 2 (made_more MasterToSlave 5 no_fates)).made_from_slave ≡ 2
made-in-its-direction = refl

pub made-modulo : (made_more MasterToSlave 3 (made_more MasterToSlave (2 ^ 64 - 1) no_fates)).made_from_master ≡ 2
made-modulo = refl

-- A line whose second byte goes, and the echo of the first.
abbrev echoed : List (Fate ℕ)
echoed = Comes SlaveToMaster (97 ∷ 94 ∷ []) ∷ Goes MasterToSlave rules.EraseKey (127 ∷ []) ∷ []

pub echo-is-told : tallied echoed no_fates ≡ told_more MasterToSlave rules.EraseKey 1 (made_more SlaveToMaster 2 no_fates)
echo-is-told = refl

pub echo-is-made : weight_made (λ direction c. true) echoed ≡ 2
echo-is-made = refl

pub key-has-gone : weight_gone (λ direction c. true) echoed ≡ 1
key-has-gone = refl

pub echo-is-mapped : map (map_fate (λ c. c + 1)) echoed ≡ Comes SlaveToMaster (98 ∷ 95 ∷ []) ∷ Goes MasterToSlave rules.EraseKey (128 ∷ []) ∷ []
echo-is-mapped = refl

abbrev at : ℕ → Spot
at n = record { side = Slave; at = n; way = Up }

pub up-and-down : map (λ w. (toward w (at 2)).at) (Up ∷ Down ∷ []) ≡ 1 ∷ 3 ∷ []
up-and-down = refl

pub turned-on-the-way : map (λ w. (toward w (at 2)).way) (Up ∷ Down ∷ []) ≡ Up ∷ Down ∷ []
turned-on-the-way = refl

pub directions-of-spots : map (λ w. direction_at w Slave) (Up ∷ Down ∷ []) ≡ MasterToSlave ∷ SlaveToMaster ∷ []
directions-of-spots = refl

-- A put that writes down where it is. From 4 it sends to 3 and to 2, from 3 to 1, and from 1 and 2 nowhere.
abbrev sends : ℕ → List ℕ
sends n = if n == 4 then 3 ∷ 2 ∷ [] else (if n == 3 then 1 ∷ [] else [])

abbrev parcel : ℕ → Parcel ℕ
parcel n = record { to = at n; message = data_message (n ∷ []) }

abbrev noted : Spot → Message ℕ → List ℕ → Took ℕ (List ℕ)
noted to m trail = record {
  state = trail ++ to.at ∷ [];
  sent = map parcel (sends to.at);
  gone = Goes MasterToSlave rules.Igncr (to.at ∷ []) ∷ [];
}

-- each message with all that it gives rise to, before the next
pub first-with-all-its-own : (carried noted 8 (parcel 4) []).state ≡ 4 ∷ 3 ∷ 1 ∷ 2 ∷ []
unfolding carried
first-with-all-its-own = refl

pub gone-in-that-order : (carried noted 8 (parcel 4) []).gone ≡ map (λ n. Goes MasterToSlave rules.Igncr (n ∷ [])) (4 ∷ 3 ∷ 1 ∷ 2 ∷ [])
unfolding carried
gone-in-that-order = refl

-- no more hops than these
pub two-hops : (carried noted 2 (parcel 4) []).state ≡ 4 ∷ 3 ∷ 2 ∷ []
unfolding carried
two-hops = refl

pub all-are-told : take 3 (tallied (carried noted 8 (parcel 4) []).gone no_fates).from_master ≡ 0 ∷ 4 ∷ 0 ∷ []
unfolding carried
all-are-told = refl

-- modules as their names
abbrev itself : ModuleName → ModuleName
itself name = name

pub queues-of-ldterm-alone : map place_of (Ldterm ∷ Ptem ∷ Pckt ∷ []) ≡ Some (places.Module Ldterm) ∷ None ∷ None ∷ []
queues-of-ldterm-alone = refl

pub names-are-told-apart : map (same_module Ptem) (Ldterm ∷ Ptem ∷ Pckt ∷ []) ≡ false ∷ true ∷ false ∷ []
names-are-told-apart = refl

pub each-name-once : map (λ name. may_push itself name (Ldterm ∷ Ptem ∷ [])) (Ldterm ∷ Ptem ∷ Pckt ∷ []) ≡ false ∷ false ∷ true ∷ []
each-name-once = refl

pub three-at-most : may_push itself Pckt (Ldterm ∷ Ldterm ∷ Ptem ∷ []) ≡ false
three-at-most = refl

pub top-is-first : map (top_name itself) ((Ptem ∷ Ldterm ∷ []) ∷ [] ∷ []) ≡ Some Ptem ∷ None ∷ []
top-is-first = refl

-- a put changes the module that it is at, and says what that one does
abbrev marks : Spot → Message ℕ → ModuleName → Acted ℕ ModuleName
marks to m name = record { state = Pckt; notes = Enable Down ∷ Room Up ∷ []; sent = parcel 1 ∷ []; gone = [] }

pub put-at-the-second : (put_among marks 1 (at 2) (data_message []) (Ldterm ∷ Ptem ∷ [])).state ≡ Ldterm ∷ Pckt ∷ []
put-at-the-second = refl

pub its-notes : (put_among marks 1 (at 2) (data_message []) (Ldterm ∷ Ptem ∷ [])).notes ≡ Enable Down ∷ Room Up ∷ []
its-notes = refl

pub nobody-there : (put_among marks 2 (at 3) (data_message []) (Ldterm ∷ Ptem ∷ [])).sent ≡ []
nobody-there = refl
