-- A message that a driver made, and that it sends where a condition holds.
use Rattle.strm_pty.proofs.Prelude.{ℕ, ◌≡◌, ◌≤◌, ◌+◌, Bool, true, false, List, [], ◌∷◌, length, refl, sym, ap, ◌∙◌, arith, inl, inr, ◌&&◌, Option}
use Rattle.strm_pty.proofs.Prelude.{None, Some}
use Rattle.strm_pty.specs.Prelude.{FlushAsked, MsgKind, Flush, Iocnak, Ioc, Up, Spot, Parcel, toward, reader_flush, is_data_kind, ioc_bytes}
use Rattle.strm_pty.specs.Prelude.{nak_message, StoreValue, in_hand, held, free_m, free_d, token, Sent, HasRoom}
use Rattle.strm_types.specs.declared.kinds.Band.{Band}
use Rattle.strm_types.specs.Flushing.{read_flush}
use Rattle.strm_types.specs.Ioctls.{refused}
use Rattle.strm_types.specs.Write.{chunk_count}
use Rattle.strm_blocks.proofs.Laws.{in_hand-held}
use Rattle.strm_msg.specs.Made.{MadeOf, TooFew, copies_of, pieces}
use Rattle.strm_msg.proofs.MadePlain.{made-plain}
use Rattle.strm_msg.proofs.Pieces.{length-pieces}
use Rattle.strm_queue.proofs.OneMade.{chunk-one}
use Rattle.strm_pty.specs.Does.{Makes, MadeOne}
use Rattle.strm_pty.proofs.Doing.{makes-none, makes-one}

-- there is room for one block
pub never-few : (s t : StoreValue) (n : ℕ) → n ≤ 256 → HasRoom s 1 → TooFew s t (chunk_count n) → ⊥
never-few s t n few room fails =
    let one = chunk-one n few in
    elim fails.few [ inl m ↦ absurd (let r = room.mblks in omega arith) | inr d ↦ absurd (let r = room.dblks in omega arith) ]

pub made-one : (s t : StoreValue) (i : ℕ) (kind : MsgKind) (bytes : List ℕ) → is_data_kind kind ≡ false → length bytes ≤ 256 → MadeOf s t i kind 0 bytes → MadeOne s t i kind bytes
made-one s t i kind bytes none few m =
    let chain = copies_of m.made.numbers (pieces kind 0 bytes) in
    let here : in_hand t i ≡ chain = ap (λ v. in_hand v i) m.made.after ∙ in_hand-held s i chain in
    let long : length (pieces kind 0 bytes) ≡ 1 = length-pieces kind 0 bytes (chunk_count (length bytes)) ∙ chunk-one (length bytes) few in
    let plain = made-plain kind s t i bytes none m in
    record {
      fresh = m.made.fresh_name;
      after = m.made.after ∙ ap (λ c. held s i c) (sym here);
      room_m = ap (λ n. free_m t + n) (sym long) ∙ m.made.room_m;
      room_d = ap (λ n. free_d t + n) (sym long) ∙ m.made.room_d;
      chain = plain.one;
      shows = plain.is;
    }

module _ (goes : Bool) (asked : FlushAsked) (to : Spot) where
  pub no-flush : (s : StoreValue) (made : List Sent) → made ≡ [] → goes ≡ false → Makes s s 1 made (reader_flush goes asked to)
  no-flush s made none is = rw is (makes-none s 1 made none)

  pub one-flush : (s t : StoreValue) (x : Sent) (bytes : List ℕ) (made : List Sent) → MadeOne s t (token x.message) Flush bytes → made ≡ x ∷ [] → x.to ≡ to → bytes ≡ read_flush asked.band → goes ≡ true
      → Makes s t 1 made (reader_flush goes asked to)
  one-flush s t x bytes made m one place is so =
      rw so (makes-one s t x Flush bytes made _ m one (parcel-same x.to to bytes (read_flush asked.band) place is))
    where
      parcel-same : (a b : Spot) (xs ys : List ℕ) → a ≡ b → xs ≡ ys →
          ◌≡◌ {A = Parcel ℕ} (record { to = a; message = record { kind = Flush; band = 0; control = None; body = None; plain = xs } }) (record { to = b; message = record { kind = Flush; band = 0; control = None; body = None; plain = ys } })
      parcel-same a b xs ys ab same = rw (ab, same) refl

-- the kinds that drivers make have no parts, and their messages are short
pub flush-plain : is_data_kind Flush ≡ false
unfolding is_data_kind
flush-plain = refl

pub nak-plain : is_data_kind Iocnak ≡ false
unfolding is_data_kind
nak-plain = refl

pub flush-short : (band : Option Band) → length (read_flush band) ≤ 256
flush-short None = omega arith
flush-short (Some band) = omega arith

-- for the readers across, where that side is open
and-true : (goes : Bool) → (goes && true) ≡ goes
and-true goes = elim goes as (λ v. (v && true) ≡ v) [ true ↦ refl | false ↦ refl ]

and-false : (goes : Bool) → (goes && false) ≡ false
and-false goes = elim goes as (λ v. (v && false) ≡ false) [ true ↦ refl | false ↦ refl ]

module _ (s t : StoreValue) (goes open_there : Bool) (asked : FlushAsked) (to there : Spot) (made : List Sent) where
  pub readers-open : Makes s t 1 made (reader_flush goes asked to) → to ≡ there → open_there ≡ true → Makes s t 1 made (reader_flush (goes && open_there) asked there)
  readers-open makes place is = rw (is, and-true goes, sym place) makes

  pub readers-closed : made ≡ [] → open_there ≡ false → Makes s s 1 made (reader_flush (goes && open_there) asked there)
  readers-closed none is = rw (is, and-false goes) (makes-none s 1 made none)

-- the answer to an M_IOCTL
pub nak-parcel : (a : Spot) (xs : List ℕ) (here : Spot) (header ioc : Ioc) → a ≡ toward Up here → xs ≡ ioc_bytes header → header ≡ refused ioc →
    ◌≡◌ {A = Parcel ℕ} (record { to = a; message = record { kind = Iocnak; band = 0; control = None; body = None; plain = xs } }) (record { to = toward Up here; message = nak_message ioc })
nak-parcel a xs here header ioc place bytes is = rw (place, bytes, is) refl
