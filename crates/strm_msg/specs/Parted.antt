-- The parts of a message as a visitor adds them up, block by block.
use Rattle.std.specs.Prelude.{ℕ, ◌&&◌, ◌+◌, ◌-◌, ◌^◌, min, if◌then◌else◌, List, length, Option, Some, unwrap_or}
use Rattle.strm_types.specs.Kinds.{is_control_kind, is_body_kind}
use Rattle.strm_blocks.specs.Outcomes.{SeenBlock}
use Rattle.strm_msg.specs.declared.sizes.PartSizes.{PartSizes}

-- a length with the bytes of one more block
abbrev pub longer : Option ℕ → List ℕ → Option ℕ
longer found bytes = Some (min (unwrap_or found 0 + length bytes) (2 ^ 64 - 1))

-- the control part ends at the first block of another kind, and each M_DATA block is of the data part
abbrev pub parted : PartSizes → SeenBlock → PartSizes
parted v b = record {
  in_front = v.in_front && is_control_kind b.kind;
  control = if v.in_front && is_control_kind b.kind then longer v.control b.bytes else v.control;
  body = if is_body_kind b.kind then longer v.body b.bytes else v.body;
}
