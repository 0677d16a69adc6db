-- What a chain of small blocks is once it was pulled up, worked out by hand from msgpullup(9F).
use Rattle.std.proofs.Common.{ℕ, pos, negsuc, ◌≡◌, List, [], ◌∷◌, Some, None, refl}
use Rattle.strm_types.specs.declared.kinds.MsgKind.TheVariants.{Data, Proto}
use Rattle.strm_types.specs.declared.refusals.Refusal.TheVariants.{Einval, Erange}
use Rattle.strm_blocks.specs.Blocks.{Block}
use Rattle.strm_types.specs.Kinds.{kind_number}
use Rattle.strm_msg.specs.Runs.{same_kind}
use Rattle.strm_msg.specs.Pulled.{asked_of, count_refusal, pulled}

-- four control bytes in two blocks with an empty one between them, of which only the first is of band 3, and a data byte
abbrev control_block : ℕ → List ℕ → ℕ → Block
control_block number bytes room = record { kind = Proto; band = 3; number = number; bytes = bytes; room = room }

abbrev data_block : Block
data_block = record { kind = Data; band = 0; number = 8; bytes = 5 ∷ []; room = 1 }

abbrev parts : List Block
parts = control_block 5 (1 ∷ 2 ∷ []) 10 ∷ control_block 6 [] 256 ∷ control_block 7 (3 ∷ 4 ∷ []) 0 ∷ data_block ∷ []

pub within-a-block : pulled 9 1 parts ≡ control_block 9 (1 ∷ []) 255 ∷ control_block 5 (2 ∷ []) 10 ∷ control_block 6 [] 256 ∷ control_block 7 (3 ∷ 4 ∷ []) 0 ∷ data_block ∷ []
unfolding kind_number same_kind
within-a-block = refl

pub empty-block-goes-too : pulled 9 2 parts ≡ control_block 9 (1 ∷ 2 ∷ []) 254 ∷ control_block 7 (3 ∷ 4 ∷ []) 0 ∷ data_block ∷ []
unfolding kind_number same_kind
empty-block-goes-too = refl

pub across-blocks : pulled 9 3 parts ≡ control_block 9 (1 ∷ 2 ∷ 3 ∷ []) 253 ∷ control_block 7 (4 ∷ []) 0 ∷ data_block ∷ []
unfolding kind_number same_kind
across-blocks = refl

pub whole-run : pulled 9 4 parts ≡ control_block 9 (1 ∷ 2 ∷ 3 ∷ 4 ∷ []) 252 ∷ data_block ∷ []
unfolding kind_number same_kind
whole-run = refl

pub nothing : pulled 9 0 parts ≡ control_block 9 [] 256 ∷ parts
unfolding kind_number same_kind
nothing = refl

-- how many bytes of a run of 300 are joined, and why not
pub all-are-too-many : count_refusal (asked_of (negsuc 0) 300) ≡ Some Erange
all-are-too-many = refl

pub most : count_refusal (asked_of (pos 256) 300) ≡ None
most = refl

pub one-too-many : count_refusal (asked_of (pos 257) 300) ≡ Some Erange
one-too-many = refl

pub more-than-there-are : count_refusal (asked_of (pos 301) 300) ≡ Some Einval
more-than-there-are = refl

pub below-minus-one : count_refusal (asked_of (negsuc 1) 300) ≡ Some Einval
below-minus-one = refl
