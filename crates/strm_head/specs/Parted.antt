-- The chain of a message that is read or gotten, and of what is left of it.
use Rattle.std.specs.Prelude.{ℕ, ◌-◌, List, length}
use Rattle.strm_head.specs.Prelude.{ControlMode, Refuse, Data, Discard, Block, control_bytes, without_emptied, without_control, without_data}

-- a chain without the first so many bytes of its control part and of its data part
abbrev pub cut_by : ℕ → ℕ → List Block → List Block
cut_by n d chain = without_data d (without_control n chain)

-- a chain with the bytes alone that a read could give of it
abbrev pub shown_chain : ControlMode → List Block → List Block
shown_chain Refuse chain = chain
shown_chain Data chain = chain
shown_chain Discard chain = cut_by (length (control_bytes chain)) 0 chain

-- what is left of a chain that loses its first so many bytes, those of the control part first
abbrev pub rest_chain : ℕ → List Block → List Block
rest_chain n chain = without_emptied (cut_by n (n - length (control_bytes chain)) chain)
