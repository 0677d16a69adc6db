-- What is left of a message whose bytes were taken or trimmed (adjmsg(9F)).
use Rattle.std.specs.Prelude.{ℕ, ◌-◌, if◌then◌else◌, List, [], ◌∷◌, ◌++◌, length, take, drop}
use Rattle.strm_blocks.specs.Blocks.{Block, trimmed_head}
use Rattle.strm_types.specs.Kinds.{is_control_kind, is_body_kind}

-- a chain without the first so many bytes of its M_DATA blocks, which stay, emptied
abbrev pub without_data : ℕ → List Block → List Block
without_data n [] = []
without_data n (b ∷ chain) =
    if is_body_kind b.kind then trimmed_head n b ∷ without_data (n - length b.bytes) chain else b ∷ without_data n chain

-- a chain without the first so many bytes of its control part, whose blocks stay, emptied
abbrev pub without_control : ℕ → List Block → List Block
without_control n [] = []
without_control n (b ∷ chain) =
    if is_control_kind b.kind then trimmed_head n b ∷ without_control (n - length b.bytes) chain else b ∷ chain

-- a buffer into which bytes were put from its front on, as many as it has room for
abbrev pub filled : List ℕ → List ℕ → List ℕ
filled buffer bytes = take (length buffer) bytes ++ drop (length bytes) buffer
