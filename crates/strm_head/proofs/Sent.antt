-- A message that was made of a control part, a data part or both is the one that was asked for.
use Rattle.strm_head.proofs.Prelude.{ℕ, ◌≡◌, ◌≤◌, ◌<◌, Bool, true, false, cond, List, [], ◌∷◌, ◌++◌, length, Some, refl, sym, ap, subst, ◌∙◌, arith}
use Rattle.strm_head.proofs.Prelude.{append-nil, nat_lt, ◌||◌, nat_tests, in_hand-held, Made-one, Made-more, control-front, data-behind, control-none}
use Rattle.strm_head.proofs.Prelude.{data-all, data-control}
use Rattle.strm_head.specs.Prelude.{MsgKind, Prio, High, Band, Erange, is_data_kind, is_control_kind, Message, part, is_high_priority, put_refusal}
use Rattle.strm_head.specs.Prelude.{Block, StoreValue, in_hand, held, dropped, changed, filled_block, copy_of, free_m, free_d, Copied, control_blocks}
use Rattle.strm_head.specs.Prelude.{data_blocks, Made, message_of, part_of, AreData, IsChain}
use Rattle.std.proofs.Common.{Option, None}
use Rattle.strm_types.specs.declared.kinds.MsgKind.TheVariants as kinds
use Rattle.strm_types.specs.declared.refusals.Refusal.TheVariants.{Einval}
use Rattle.strm_types.specs.PutMsg.{put_band, put_message, put_blocks, is_no_prio, is_too_long}
use Rattle.strm_msg.specs.Made.{copies_of}
use Rattle.strm_head.specs.Sending.{control_kind, Sends}
use Rattle.strm_head.proofs.Seen.{parts-shown}

-- what a put that isn't refused asks for
pub record Allowed (prio : Prio) (control body : Option (List ℕ)) : Type 0 where
  pub known : is_no_prio prio control ≡ false
  pub short : is_too_long control body ≡ false

pub allowed : (prio : Prio) (control body : Option (List ℕ)) → put_refusal prio control body ≡ None → Allowed prio control body
allowed prio control body none = at (is_no_prio prio control) (is_too_long control body) refl refl none
  where
    at : (v w : Bool) → is_no_prio prio control ≡ v → is_too_long control body ≡ w → cond v (Some Einval) (cond w (Some Erange) None) ≡ None → Allowed prio control body
    at true w is long refused = absurd (cc)
    at false true is long refused = absurd (cc)
    at false false is long refused = record { known = is; short = long }

either-false : (v w : Bool) → (v || w) ≡ false → (v ≡ false) × (w ≡ false)
either-false true w is = absurd (cc)
either-false false w is = (refl, is)

module _ (prio : Prio) (control body : Option (List ℕ)) (none : put_refusal prio control body ≡ None) where
  -- its parts fit in a block each
  pub control-fits : length (part control) ≤ 256
  control-fits =
      let few : nat_lt 64 (length (part control)) ≡ false = (either-false (nat_lt 64 (length (part control))) (nat_lt 256 (length (part body))) (allowed prio control body none).short).0 in
      grind (arith, nat_tests)

  pub body-fits : length (part body) ≤ 256
  body-fits =
      let few : nat_lt 256 (length (part body)) ≡ false = (either-false (nat_lt 64 (length (part control))) (nat_lt 256 (length (part body))) (allowed prio control body none).short).1 in
      grind (arith, nat_tests)

-- one of high priority has a control part
never-high : (body : Option (List ℕ)) → put_refusal High None body ≡ None → ⊥
never-high body none = absurd (cc)

-- the kinds that are sent
is-control : (prio : Prio) → is_control_kind (control_kind prio) ≡ true
unfolding is_control_kind
is-control High = refl
is-control (Band band) = refl

high-band : (prio : Prio) → is_high_priority (control_kind prio) ≡ true → put_band prio ≡ 0
unfolding is_high_priority
high-band High is = refl
high-band (Band band) is = absurd (cc)

readable : (prio : Prio) → is_data_kind (control_kind prio) ≡ true
unfolding is_data_kind
readable High = refl
readable (Band band) = refl

data-readable : is_data_kind kinds.Data ≡ true
unfolding is_data_kind
data-readable = refl

data-low : is_high_priority kinds.Data ≡ true → ⊥
unfolding is_high_priority
data-low is = absurd (cc)

-- a block of a control part, and the data part behind it
module _ (prio : Prio) (low : put_band prio < 256) (number : ℕ) (bytes : List ℕ) (behind : List Block) (all : AreData behind) where
  abbrev block : Block
  block = copy_of number (filled_block (control_kind prio) (put_band prio) bytes)

  with-control : IsChain (block ∷ behind)
  with-control = record {
    some = omega arith;
    all_data = λ is_data. absurd (let no : is_control_kind (control_kind prio) ≡ false = data-control (control_kind prio) is_data in let yes = is-control prio in cc);
    parted = λ control. record { front = block ∷ []; behind = behind; joined = refl; some = omega arith; of_kind = (refl, tt); of_data = all };
    high = λ high. high-band prio high;
    low = low;
  }

  control-shown : message_of (block ∷ behind) ≡ record { kind = control_kind prio; band = put_band prio; control = Some bytes; body = part_of behind; plain = [] }
  control-shown =
      let control : control_blocks (block ∷ behind) ≡ block ∷ [] = control-front (control_kind prio) (block ∷ []) behind (is-control prio) (refl, tt) all in
      let body : data_blocks (block ∷ behind) ≡ behind = data-behind (control_kind prio) (block ∷ []) behind (is-control prio) (refl, tt) all in
      parts-shown (block ∷ behind) (readable prio)
      ∙ ap (λ xs. record { kind = control_kind prio; band = put_band prio; control = part_of xs; body = part_of (data_blocks (block ∷ behind)); plain = [] }) control
      ∙ ap (λ xs. record { kind = control_kind prio; band = put_band prio; control = Some (bytes ++ []); body = part_of xs; plain = [] }) body
      ∙ ap (λ xs. record { kind = control_kind prio; band = put_band prio; control = Some xs; body = part_of behind; plain = [] }) (append-nil bytes)

-- an M_DATA block
module _ (band number : ℕ) (low : band < 256) (bytes : List ℕ) where
  abbrev data_block : Block
  data_block = copy_of number (filled_block kinds.Data band bytes)

  with-data : IsChain (data_block ∷ [])
  with-data = record {
    some = omega arith;
    all_data = λ is_data. (refl, tt);
    parted = λ control. absurd (let no : is_control_kind kinds.Data ≡ false = data-control kinds.Data refl in cc);
    high = λ high. absurd (data-low high);
    low = low;
  }

  data-shown : message_of (data_block ∷ []) ≡ record { kind = kinds.Data; band = band; control = None; body = Some bytes; plain = [] }
  data-shown =
      parts-shown (data_block ∷ []) data-readable
      ∙ ap (λ xs. record { kind = kinds.Data; band = band; control = part_of xs; body = part_of (data_blocks (data_block ∷ [])); plain = [] }) (control-none (data_block ∷ []) (refl, tt))
      ∙ ap (λ xs. record { kind = kinds.Data; band = band; control = None; body = part_of xs; plain = [] }) (data-all (data_block ∷ []) (refl, tt))
      ∙ ap (λ xs. record { kind = kinds.Data; band = band; control = None; body = Some xs; plain = [] }) (append-nil bytes)

-- copies of one block, and of two
pub one-copy : (numbers : List ℕ) (b : Block) → length numbers ≡ 1 → (n : ℕ) × (copies_of numbers (b ∷ []) ≡ copy_of n b ∷ [])
one-copy [] b is = absurd (omega (arith, is))
one-copy (n ∷ numbers) b is = (n, rest numbers)
  where
    rest : (numbers : List ℕ) → copies_of (n ∷ numbers) (b ∷ []) ≡ copy_of n b ∷ []
    rest [] = refl
    rest (m ∷ more) = refl

pub two-copies : (numbers : List ℕ) (b c : Block) → length numbers ≡ 2 → (n : ℕ) × ((m : ℕ) × (copies_of numbers (b ∷ c ∷ []) ≡ copy_of n b ∷ copy_of m c ∷ []))
two-copies [] b c is = absurd (omega (arith, is))
two-copies (n ∷ []) b c is = absurd (omega (arith, is))
two-copies (n ∷ m ∷ numbers) b c is = (n, (m, rest numbers))
  where
    rest : (numbers : List ℕ) → copies_of (n ∷ m ∷ numbers) (b ∷ c ∷ []) ≡ copy_of n b ∷ copy_of m c ∷ []
    rest [] = refl
    rest (k ∷ more) = refl

-- a message that was made of such blocks
pub sends : (old new : StoreValue) (i : ℕ) (like chain : List Block) (message : Message ℕ) (m : Made old new i like) → copies_of m.numbers like ≡ chain → IsChain chain → message_of chain ≡ message → Sends old new i message (length like)
sends old new i like chain message m copies one shows =
    let after : new ≡ held old i chain = m.after ∙ ap (held old i) copies in
    let here : in_hand new i ≡ chain = ap (λ v. in_hand v i) after ∙ in_hand-held old i chain in
    record {
      fresh = m.fresh_name;
      after = after ∙ ap (held old i) (sym here);
      room_m = m.room_m;
      room_d = m.room_d;
      chain = subst IsChain (sym here) one;
      shows = ap message_of here ∙ shows;
    }

module _ (old new : StoreValue) (i : ℕ) where
  pub sends-control : (prio : Prio) (bytes : List ℕ) → put_band prio < 256 → put_refusal prio (Some bytes) None ≡ None → Made old new i (filled_block (control_kind prio) (put_band prio) bytes ∷ [])
      → Sends old new i (put_message prio (Some bytes) None) 1
  sends-control prio bytes low none made =
      let b = filled_block (control_kind prio) (put_band prio) bytes in
      let c = one-copy made.numbers b made.count in
      sends old new i (b ∷ []) (copy_of c.0 b ∷ []) (put_message prio (Some bytes) None) made c.1
      (with-control prio low c.0 bytes [] tt)
      (control-shown prio low c.0 bytes [] tt ∙ kind-is prio bytes None)
    where
      kind-is : (p : Prio) (xs : List ℕ) (ys : Option (List ℕ)) → ◌≡◌ {A = Message ℕ} (record { kind = control_kind p; band = put_band p; control = Some xs; body = ys; plain = [] }) (put_message p (Some xs) ys)
      kind-is High xs ys = refl
      kind-is (Band band) xs ys = refl

  pub sends-both : (prio : Prio) (bytes body : List ℕ) → put_band prio < 256 → put_refusal prio (Some bytes) (Some body) ≡ None
      → Made old new i (filled_block (control_kind prio) (put_band prio) bytes ∷ filled_block kinds.Data (put_band prio) body ∷ [])
      → Sends old new i (put_message prio (Some bytes) (Some body)) 2
  sends-both prio bytes body low none made =
      let b = filled_block (control_kind prio) (put_band prio) bytes in
      let d = filled_block kinds.Data (put_band prio) body in
      let c = two-copies made.numbers b d made.count in
      let second = copy_of c.1.0 d in
      sends old new i (b ∷ d ∷ []) (copy_of c.0 b ∷ second ∷ []) (put_message prio (Some bytes) (Some body)) made c.1.1
      (with-control prio low c.0 bytes (second ∷ []) (refl, tt))
      (control-shown prio low c.0 bytes (second ∷ []) (refl, tt)
      ∙ ap (λ xs. record { kind = control_kind prio; band = put_band prio; control = Some bytes; body = Some xs; plain = [] }) (append-nil body) ∙ kind-is prio bytes body)
    where
      kind-is : (p : Prio) (xs ys : List ℕ) → ◌≡◌ {A = Message ℕ} (record { kind = control_kind p; band = put_band p; control = Some xs; body = Some ys; plain = [] }) (put_message p (Some xs) (Some ys))
      kind-is High xs ys = refl
      kind-is (Band band) xs ys = refl

  pub sends-data : (prio : Prio) (body : List ℕ) → put_band prio < 256 → put_refusal prio None (Some body) ≡ None → Made old new i (filled_block kinds.Data (put_band prio) body ∷ [])
      → Sends old new i (put_message prio None (Some body)) 1
  sends-data High body low none made = absurd (never-high (Some body) none)
  sends-data (Band band) body low none made =
      let d = filled_block kinds.Data band.0 body in
      let c = one-copy made.numbers d made.count in
      sends old new i (d ∷ []) (copy_of c.0 d ∷ []) (put_message (Band band) None (Some body)) made c.1
      (with-data band.0 c.0 low body)
      (data-shown band.0 c.0 low body)

-- the same by what stands in memory
module _ (prio : Prio) (control body : Option (List ℕ)) (none : put_refusal prio control body ≡ None) where
  refused-same : (c b : Option (List ℕ)) → control ≡ c → body ≡ b → put_refusal prio c b ≡ None
  refused-same c b c_is b_is = subst (λ y. put_refusal prio c y ≡ None) b_is (subst (λ x. put_refusal prio x body ≡ None) c_is none)

  sent-same : (old new : StoreValue) (i : ℕ) (c b : Option (List ℕ)) → control ≡ c → body ≡ b → Sends old new i (put_message prio c b) (put_blocks c b) → Sends old new i (put_message prio control body) (put_blocks control body)
  sent-same old new i c b c_is b_is sent =
      subst (λ x. Sends old new i (put_message prio x body) (put_blocks x body)) (sym c_is) (subst (λ y. Sends old new i (put_message prio c y) (put_blocks c y)) (sym b_is) sent)

  module _ (old mid : StoreValue) (i band : ℕ) (band_is : band ≡ put_band prio) (low : band < 256) where
    prio-low : put_band prio < 256
    prio-low = subst (λ b. b < 256) band_is low

    first-made : (bytes : List ℕ) (kind : MsgKind) → kind ≡ control_kind prio → Copied old mid i (filled_block kind band bytes) → Made old mid i (filled_block (control_kind prio) (put_band prio) bytes ∷ [])
    first-made bytes kind kind_is copied =
        Made-one (subst (λ b. Copied old mid i (filled_block (control_kind prio) b bytes)) band_is (subst (λ k. Copied old mid i (filled_block k band bytes)) kind_is copied))

    pub made-data : (bytes : List ℕ) → control ≡ None → body ≡ Some bytes → Copied old mid i (filled_block kinds.Data band bytes) → Sends old mid i (put_message prio control body) (put_blocks control body)
    made-data bytes c_is b_is copied =
        sent-same old mid i None (Some bytes) c_is b_is
        (sends-data old mid i prio bytes prio-low (refused-same None (Some bytes) c_is b_is) (Made-one (subst (λ b. Copied old mid i (filled_block kinds.Data b bytes)) band_is copied)))

    pub made-control : (bytes : List ℕ) (kind : MsgKind) → control ≡ Some bytes → body ≡ None → kind ≡ control_kind prio → Copied old mid i (filled_block kind band bytes)
        → Sends old mid i (put_message prio control body) (put_blocks control body)
    made-control bytes kind c_is b_is kind_is copied =
        sent-same old mid i (Some bytes) None c_is b_is
        (sends-control old mid i prio bytes prio-low (refused-same (Some bytes) None c_is b_is) (first-made bytes kind kind_is copied))

    module _ (bytes data_bytes : List ℕ) (kind : MsgKind) (c_is : control ≡ Some bytes) (b_is : body ≡ Some data_bytes) (kind_is : kind ≡ control_kind prio) (copied : Copied old mid i (filled_block kind band bytes)) where
      -- there is room for the second block
      pub second-room_m : put_blocks control body ≤ free_m old → 0 < free_m mid
      second-room_m room =
          let made = first-made bytes kind kind_is copied in
          let two : put_blocks control body ≡ 2 = ap (λ x. put_blocks x body) c_is ∙ ap (put_blocks (Some bytes)) b_is in
          omega (arith, made.room_m, two, room)

      pub second-room_d : put_blocks control body ≤ free_d old → 0 < free_d mid
      second-room_d room =
          let made = first-made bytes kind kind_is copied in
          let two : put_blocks control body ≡ 2 = ap (λ x. put_blocks x body) c_is ∙ ap (put_blocks (Some bytes)) b_is in
          omega (arith, made.room_d, two, room)

      pub made-both : (hung new : StoreValue) (j r : ℕ) → Copied mid hung j (filled_block kinds.Data band data_bytes) → r ≡ i → new ≡ changed (dropped hung j) i (in_hand hung i ++ in_hand hung j)
          → Sends old new r (put_message prio control body) (put_blocks control body)
      made-both hung new j r second r_is linked =
          let both = Made-more (first-made bytes kind kind_is copied) (subst (λ b. Copied mid hung j (filled_block kinds.Data b data_bytes)) band_is second) linked in
          subst (λ n. Sends old new n (put_message prio control body) (put_blocks control body)) (sym r_is)
          (sent-same old new i (Some bytes) (Some data_bytes) c_is b_is
          (sends-both old new i prio bytes data_bytes prio-low (refused-same (Some bytes) (Some data_bytes) c_is b_is) both))
