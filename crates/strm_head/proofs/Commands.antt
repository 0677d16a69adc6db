-- An M_IOCTL that was made of its header, and of its bytes where there are some, is the one that was asked for.
use Rattle.strm_head.proofs.Prelude.{ℕ, ◌≡◌, ◌≤◌, ◌<◌, true, false, List, [], ◌∷◌, ◌++◌, length, refl, sym, ap, subst, ◌∙◌, arith, append-nil, ◌==◌}
use Rattle.strm_head.proofs.Prelude.{None, nat_tests, plain-is, Made-one, Made-more}
use Rattle.strm_head.specs.Prelude.{Ioc, is_data_kind, is_control_kind, Block, StoreValue, in_hand, dropped, changed, filled_block, copy_of, free_m}
use Rattle.strm_head.specs.Prelude.{free_d, Copied, bytes_of, Made, message_of, IsChain}
use Rattle.strm_types.specs.declared.kinds.MsgKind.TheVariants as kinds
use Rattle.strm_types.specs.Ioctls.{ioc_bytes, ioctl_message}
use Rattle.strm_head.specs.Sending.{Sends, ioctl_blocks}
use Rattle.strm_head.proofs.Sent.{one-copy, two-copies, sends}

no-data : is_data_kind kinds.Ioctl ≡ false
unfolding is_data_kind
no-data = refl

no-control : is_control_kind kinds.Ioctl ≡ false
unfolding is_control_kind
no-control = refl

abbrev header : Ioc → Block
header ioc = filled_block kinds.Ioctl 0 (ioc_bytes ioc)

abbrev behind : List ℕ → Block
behind body = filled_block kinds.Data 0 body

-- a block with the header, and others behind it
module _ (ioc : Ioc) (number : ℕ) (rest : List Block) where
  abbrev chain : List Block
  chain = copy_of number (header ioc) ∷ rest

  is-chain : IsChain chain
  is-chain = record {
    some = omega arith;
    all_data = λ is_data. absurd (cc);
    parted = λ control. absurd (let no = no-control in cc);
    high = λ high. refl;
    low = omega arith;
  }

  shown : message_of chain ≡ record { kind = kinds.Ioctl; band = 0; control = None; body = None; plain = ioc_bytes ioc ++ bytes_of rest }
  shown = plain-is chain no-data

module _ (old new : StoreValue) (i : ℕ) (ioc : Ioc) where
  sends-header : Made old new i (header ioc ∷ []) → Sends old new i (ioctl_message ioc []) 1
  sends-header made =
      let c = one-copy made.numbers (header ioc) made.count in
      sends old new i (header ioc ∷ []) (copy_of c.0 (header ioc) ∷ []) (ioctl_message ioc []) made c.1 (is-chain ioc c.0 []) (shown ioc c.0 [])

  sends-both : (body : List ℕ) → Made old new i (header ioc ∷ behind body ∷ []) → Sends old new i (ioctl_message ioc body) 2
  sends-both body made =
      let c = two-copies made.numbers (header ioc) (behind body) made.count in
      let second = copy_of c.1.0 (behind body) in
      sends old new i (header ioc ∷ behind body ∷ []) (copy_of c.0 (header ioc) ∷ second ∷ []) (ioctl_message ioc body) made c.1.1 (is-chain ioc c.0 (second ∷ []))
      (shown ioc c.0 (second ∷ []) ∙ ap (λ xs. ioctl_message ioc xs) (append-nil body))

-- no bytes, or some
none-there : (body : List ℕ) → (length body == 0) ≡ true → body ≡ []
none-there [] is = refl
none-there (x ∷ body) is = absurd (grind (arith, nat_tests))

two-blocks : (body : List ℕ) → (length body == 0) ≡ false → ioctl_blocks body ≡ 2
two-blocks [] is = absurd (cc)
two-blocks (x ∷ body) is = refl

pub two-at-most : (body : List ℕ) → ioctl_blocks body ≤ 2
two-at-most [] = omega arith
two-at-most (x ∷ body) = omega arith

-- the same by what stands in memory
module _ (old mid : StoreValue) (i : ℕ) (ioc : Ioc) (bytes : List ℕ) (bytes_is : bytes ≡ ioc_bytes ioc) (body : List ℕ) (copied : Copied old mid i (filled_block kinds.Ioctl 0 bytes)) where
  first-made : Made old mid i (header ioc ∷ [])
  first-made = Made-one (subst (λ xs. Copied old mid i (filled_block kinds.Ioctl 0 xs)) bytes_is copied)

  pub made-header : (length body == 0) ≡ true → Sends old mid i (ioctl_message ioc body) (ioctl_blocks body)
  made-header none = subst (λ xs. Sends old mid i (ioctl_message ioc xs) (ioctl_blocks xs)) (sym (none-there body none)) (sends-header old mid i ioc first-made)

  -- there is room for the second block
  pub behind-room_m : (length body == 0) ≡ false → ioctl_blocks body ≤ free_m old → 0 < free_m mid
  behind-room_m some room = omega (arith, first-made.room_m, two-blocks body some, room)

  pub behind-room_d : (length body == 0) ≡ false → ioctl_blocks body ≤ free_d old → 0 < free_d mid
  behind-room_d some room = omega (arith, first-made.room_d, two-blocks body some, room)

  pub made-with-body : (hung new : StoreValue) (j r : ℕ) → (length body == 0) ≡ false → Copied mid hung j (behind body) → r ≡ i → new ≡ changed (dropped hung j) i (in_hand hung i ++ in_hand hung j)
      → Sends old new r (ioctl_message ioc body) (ioctl_blocks body)
  made-with-body hung new j r some second r_is linked =
      subst (λ n. Sends old new n (ioctl_message ioc body) (ioctl_blocks body)) (sym r_is)
      (subst (λ k. Sends old new i (ioctl_message ioc body) k) (sym (two-blocks body some)) (sends-both old new i ioc body (Made-more first-made second linked)))
