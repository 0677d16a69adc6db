-- What is passed in a text is what is read, and what messages take and hold.
use Rattle.strm_image.proofs.Prelude.{◌≡◌, ℕ, ◌+◌, ◌-◌, true, false, List, [], ◌∷◌, length, Option, Some, None, refl, sym, ap, ◌∙◌, length-append}
use Rattle.strm_image.specs.Prelude.{HIGH_PRIORITY_RANK, is_data_kind, Message, cells_of}
use Rattle.std.specs.Prelude.{option_map}
use Rattle.std.specs.List.{fold}
use Rattle.strm_image.specs.declared.versions.Load.{Load}
use Rattle.strm_image.specs.declared.versions.QueueKind.{QueueKind}
use Rattle.strm_image.specs.declared.versions.Version.{Version}
use Rattle.strm_image.specs.Format.{u32, read_from, gather_from, gathered}
use Rattle.strm_image.specs.Loads.{add_message, begun, blocks_in, blocks_of, counted_of, load_of, no_load, part_blocks}
use Rattle.strm_image.specs.Messages.{Parts, bytes_in, is_ioctl_kind, message_behind, message_of, messages, next_rank, parts_fit}
use Rattle.strm_image.specs.Texts.{values_read}
use Rattle.strm_image.proofs.Formats.{gather_none, gather_some, read_long}
use Rattle.strm_image.proofs.MessageRows.{parts_back}

module _ (v : Version) (x : Parts) (fits : parts_fit v x ≡ true) where
  pub ioctl_blocks : is_ioctl_kind x.0 ≡ true → 1 + begun (length (bytes_in x.1.1.1) - 16) ≡ blocks_of (message_of x)
  unfolding blocks_of
  ioctl_blocks is = let one : 1 + begun (length (bytes_in x.1.1.1) - 16) ≡ blocks_in x = rw is refl in one ∙ ap blocks_in (sym (parts_back v x fits).0)

  pub part_blocks_added : is_ioctl_kind x.0 ≡ false → part_blocks x.1.1.0 + part_blocks x.1.1.1 ≡ blocks_of (message_of x)
  unfolding blocks_of
  part_blocks_added is = let one : part_blocks x.1.1.0 + part_blocks x.1.1.1 ≡ blocks_in x = rw is refl in one ∙ ap blocks_in (sym (parts_back v x fits).0)

  pub cells_added : is_data_kind x.0 ≡ true → length (bytes_in x.1.1.0) + length (bytes_in x.1.1.1) ≡ counted_of (message_of x)
  unfolding counted_of cells_of
  cells_added is = rw is (sym (length-append (bytes_in x.1.1.0) (bytes_in x.1.1.1)))

  pub no_cells : is_data_kind x.0 ≡ false → 0 ≡ counted_of (message_of x)
  unfolding counted_of cells_of
  no_cells is = rw is refl

-- ---- the messages of a queue

loads_added : (ms : List (Message ℕ)) (load : Load) → gathered add_message load ms ≡ record { blocks = fold (λ a m. a + blocks_of m) load.blocks ms; cells = fold (λ a m. a + counted_of m) load.cells ms }
loads_added [] load = refl
loads_added (m ∷ ms) load = loads_added ms (add_message m load)

-- all that was read of a queue, and what the messages take and hold
module _ (v : Version) (at : QueueKind) (count : ℕ) (text : List ℕ) where
  passed_load : (load : Load) (rest : List ℕ) → gather_from next_rank (message_behind v at) add_message no_load HIGH_PRIORITY_RANK count text ≡ Some (load, rest)
      → load ≡ load_of (values_read (read_from next_rank (message_behind v at) HIGH_PRIORITY_RANK count text))
  passed_load load rest told =
      let a = gather_some next_rank (message_behind v at) add_message no_load HIGH_PRIORITY_RANK count text (load, rest) told in
      rw a.1 (a.2 ∙ loads_added a.0 no_load)

  pub load_kept : (load : Load) → option_map (λ x. x.0) (gather_from next_rank (message_behind v at) add_message no_load HIGH_PRIORITY_RANK count text) ≡ Some load
      → load ≡ load_of (values_read (read_from next_rank (message_behind v at) HIGH_PRIORITY_RANK count text))
  load_kept load there = found (gather_from next_rank (message_behind v at) add_message no_load HIGH_PRIORITY_RANK count text) refl there
    where
      found : (o : Option (Load × List ℕ)) → gather_from next_rank (message_behind v at) add_message no_load HIGH_PRIORITY_RANK count text ≡ o → option_map (λ x. x.0) o ≡ Some load
          → load ≡ load_of (values_read (read_from next_rank (message_behind v at) HIGH_PRIORITY_RANK count text))
      found None told e = absurd cc
      found (Some x) told e = passed_load load x.1 (told ∙ ap (λ l. Some (l, x.1)) (ap (λ (o : Option Load). first o) e))
        where
          first : Option Load → Load
          first None = no_load
          first (Some l) = l

  pub passed : (bytes : List ℕ) (load : Load) (rest : List ℕ) → u32.read bytes ≡ Some (count, text) → gather_from next_rank (message_behind v at) add_message no_load HIGH_PRIORITY_RANK count text ≡ Some (load, rest)
      → (messages v at).read bytes ≡ Some (values_read (read_from next_rank (message_behind v at) HIGH_PRIORITY_RANK count text), rest)
  unfolding messages
  passed bytes load rest head told =
      let a = gather_some next_rank (message_behind v at) add_message no_load HIGH_PRIORITY_RANK count text (load, rest) told in
      rw (head, a.1) refl

  pub not_passed : (bytes : List ℕ) → u32.read bytes ≡ Some (count, text) → gather_from next_rank (message_behind v at) add_message no_load HIGH_PRIORITY_RANK count text ≡ None → (messages v at).read bytes ≡ None
  unfolding messages
  not_passed bytes head told = rw (head, gather_none next_rank (message_behind v at) add_message no_load HIGH_PRIORITY_RANK count text told) refl

  -- as many as were counted
  pub counted_long : (load : Load) → option_map (λ x. x.0) (gather_from next_rank (message_behind v at) add_message no_load HIGH_PRIORITY_RANK count text) ≡ Some load
      → length (values_read (read_from next_rank (message_behind v at) HIGH_PRIORITY_RANK count text)) ≡ count
  counted_long load there = found (gather_from next_rank (message_behind v at) add_message no_load HIGH_PRIORITY_RANK count text) refl there
    where
      found : (o : Option (Load × List ℕ)) → gather_from next_rank (message_behind v at) add_message no_load HIGH_PRIORITY_RANK count text ≡ o → option_map (λ x. x.0) o ≡ Some load
          → length (values_read (read_from next_rank (message_behind v at) HIGH_PRIORITY_RANK count text)) ≡ count
      found None told e = absurd cc
      found (Some x) told e =
          let a = gather_some next_rank (message_behind v at) add_message no_load HIGH_PRIORITY_RANK count text x told in
          rw a.1 (read_long next_rank (message_behind v at) HIGH_PRIORITY_RANK count text (a.0, x.1) a.1)
