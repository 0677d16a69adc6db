-- A call of a C program brings no more bytes than an empty journal takes.
use Rattle.std.proofs.Common.{ℕ, ◌≡◌, ◌≤◌, Bool, true, false, cond, List, length, take, refl, sym, subst, arith}
use Rattle.std.proofs.lemmas.List.{length-take}
use Rattle.std.specs.Prelude.{Option, None, Some, ◌==◌, option_map, option_and_then}
use Rattle.strm_types.specs.declared.events.Event.TheVariants.{OpenMaster, Unlock, OpenSlave, Shut, Push, Pop, Look, Flush, Write, Read, Put, Get, Mode, Nread, Ioctl, IoctlResult, Signals}
use Rattle.strm_types.specs.Events.{Request}
use Rattle.strm_handle.specs.declared.asks.Ask.{Ask}
use Rattle.strm_handle.specs.Calls.{brought, event_at}
use Rattle.strm_handle.specs.Few.{FewAsked, FewBytes}
use Rattle.strm_handle.specs.Numbers.{band_at, flush_at, mode_at, module_at, parts_at, prio_at, wanted_at}

module _ (y : Option Request) where
  or-few : (b : Bool) (x : Option Request) → FewAsked x → FewAsked y → FewAsked (cond b x y)
  or-few true x first second = first
  or-few false x first second = second

  when-few : (b : Bool) (x : Option Request) → (b ≡ true → FewAsked x) → FewAsked y → FewAsked (cond b x y)
  when-few true x first second = first refl
  when-few false x first second = second

map-few : {A : Type 0} (o : Option A) (f : A → Request) → ((a : A) → FewBytes (f a)) → FewAsked (option_map f o)
map-few None f few = tt
map-few (Some a) f few = few a

then-few : {A : Type 0} (o : Option A) (f : A → Option Request) → ((a : A) → FewAsked (f a)) → FewAsked (option_and_then f o)
then-few None f few = tt
then-few (Some a) f few = few a

few-asked : (ask : Ask) (bytes : List ℕ) → ((ask.op == 8) ≡ true → length bytes ≤ 1024) → FewAsked (event_at ask bytes)
few-asked ask bytes few =
    let y17 : Option Request = None in
    let f17 : FewAsked y17 = tt in
    let x16 : Option Request = Some Signals in
    let y16 : Option Request = cond (ask.op == 16) x16 y17 in
    let f16 : FewAsked y16 = or-few y17 (ask.op == 16) x16 tt f17 in
    let x15 : Option Request = Some (IoctlResult ask.a) in
    let y15 : Option Request = cond (ask.op == 15) x15 y16 in
    let f15 : FewAsked y15 = or-few y16 (ask.op == 15) x15 tt f16 in
    let x14 : Option Request = Some (Ioctl ask.a bytes) in
    let y14 : Option Request = cond (ask.op == 14) x14 y15 in
    let f14 : FewAsked y14 = or-few y15 (ask.op == 14) x14 tt f15 in
    let x13 : Option Request = Some Nread in
    let y13 : Option Request = cond (ask.op == 13) x13 y14 in
    let f13 : FewAsked y13 = or-few y14 (ask.op == 13) x13 tt f14 in
    let x12 : Option Request = option_map (λ mode. Mode mode) (mode_at ask.a) in
    let y12 : Option Request = cond (ask.op == 12) x12 y13 in
    let f12 : FewAsked y12 = or-few y13 (ask.op == 12) x12 (map-few (mode_at ask.a) (λ mode. Mode mode) (λ mode. tt)) f13 in
    let x11 : Option Request = option_map (λ wanted. Get wanted ask.b ask.c) (wanted_at ask.a) in
    let y11 : Option Request = cond (ask.op == 11) x11 y12 in
    let f11 : FewAsked y11 = or-few y12 (ask.op == 11) x11 (map-few (wanted_at ask.a) (λ wanted. Get wanted ask.b ask.c) (λ wanted. tt)) f12 in
    let x10 : Option Request = option_and_then (λ prio. option_map (λ parts. Put prio parts.control parts.body) (parts_at ask.b ask.c bytes)) (prio_at ask.a) in
    let y10 : Option Request = cond (ask.op == 10) x10 y11 in
    let f10 : FewAsked y10 = or-few y11 (ask.op == 10) x10 (then-few (prio_at ask.a) (λ prio. option_map (λ parts. Put prio parts.control parts.body) (parts_at ask.b ask.c bytes)) (λ prio. map-few (parts_at ask.b ask.c bytes) (λ parts. Put prio parts.control parts.body) (λ parts. tt))) f11 in
    let x9 : Option Request = Some (Read ask.a) in
    let y9 : Option Request = cond (ask.op == 9) x9 y10 in
    let f9 : FewAsked y9 = or-few y10 (ask.op == 9) x9 tt f10 in
    let x8 : Option Request = Some (Write bytes) in
    let y8 : Option Request = cond (ask.op == 8) x8 y9 in
    let f8 : FewAsked y8 = when-few y9 (ask.op == 8) x8 few f9 in
    let x7 : Option Request = option_and_then (λ what. option_map (λ band. Flush what band) (band_at ask.b)) (flush_at ask.a) in
    let y7 : Option Request = cond (ask.op == 7) x7 y8 in
    let f7 : FewAsked y7 = or-few y8 (ask.op == 7) x7 (then-few (flush_at ask.a) (λ what. option_map (λ band. Flush what band) (band_at ask.b)) (λ what. map-few (band_at ask.b) (λ band. Flush what band) (λ band. tt))) f8 in
    let x6 : Option Request = Some Look in
    let y6 : Option Request = cond (ask.op == 6) x6 y7 in
    let f6 : FewAsked y6 = or-few y7 (ask.op == 6) x6 tt f7 in
    let x5 : Option Request = Some Pop in
    let y5 : Option Request = cond (ask.op == 5) x5 y6 in
    let f5 : FewAsked y5 = or-few y6 (ask.op == 5) x5 tt f6 in
    let x4 : Option Request = Some (Push (module_at ask.a)) in
    let y4 : Option Request = cond (ask.op == 4) x4 y5 in
    let f4 : FewAsked y4 = or-few y5 (ask.op == 4) x4 tt f5 in
    let x3 : Option Request = Some Shut in
    let y3 : Option Request = cond (ask.op == 3) x3 y4 in
    let f3 : FewAsked y3 = or-few y4 (ask.op == 3) x3 tt f4 in
    let x2 : Option Request = Some OpenSlave in
    let y2 : Option Request = cond (ask.op == 2) x2 y3 in
    let f2 : FewAsked y2 = or-few y3 (ask.op == 2) x2 tt f3 in
    let x1 : Option Request = Some Unlock in
    let y1 : Option Request = cond (ask.op == 1) x1 y2 in
    let f1 : FewAsked y1 = or-few y2 (ask.op == 1) x1 tt f2 in
    let x0 : Option Request = Some OpenMaster in
    let y0 : Option Request = cond (ask.op == 0) x0 y1 in
    let f0 : FewAsked y0 = or-few y1 (ask.op == 0) x0 tt f1 in
    f0

pub front-few : (bytes : List ℕ) → length (take 1024 bytes) ≤ 1024
front-few bytes = omega (arith, length-take {A = ℕ} 1024 bytes)

pub few-brought : (ask : Ask) (bytes : List ℕ) → FewAsked (event_at ask (brought ask bytes))
few-brought ask bytes =
    few-asked ask (brought ask bytes) (λ is. subst (λ b. length (cond b (take 1024 bytes) bytes) ≤ 1024) (sym is) (front-few bytes))

pub few-some : (o : Option Request) (asked : Request) → o ≡ Some asked → FewAsked o → FewBytes asked
few-some o asked is few = subst FewAsked is few
