-- What a chain of three small blocks is after a trim, worked out by hand from adjmsg(9F).
use Rattle.std.proofs.Common.{ℕ, pos, negsuc, ◌≡◌, List, [], ◌∷◌, refl}
use Rattle.strm_types.specs.declared.kinds.MsgKind.TheVariants.{Data, Proto}
use Rattle.strm_blocks.specs.Blocks.{Block}
use Rattle.strm_types.specs.Kinds.{kind_number}
use Rattle.strm_msg.specs.Runs.{same_kind}
use Rattle.strm_msg.specs.Adjusted.{adjusted}

-- two control bytes, and four data bytes in two blocks
abbrev control_block : List ℕ → Block
control_block bytes = record { kind = Proto; band = 0; number = 5; bytes = bytes; room = 250 }

abbrev data_block : ℕ → List ℕ → ℕ → Block
data_block number bytes room = record { kind = Data; band = 0; number = number; bytes = bytes; room = room }

abbrev parts : List Block
parts = control_block (1 ∷ 2 ∷ []) ∷ data_block 6 (3 ∷ 4 ∷ 5 ∷ []) 7 ∷ data_block 8 (6 ∷ []) 9 ∷ []

pub head-of-the-run : adjusted (pos 2) parts ≡ control_block [] ∷ data_block 6 (3 ∷ 4 ∷ 5 ∷ []) 7 ∷ data_block 8 (6 ∷ []) 9 ∷ []
unfolding kind_number same_kind
head-of-the-run = refl

pub head-past-the-run : adjusted (pos 3) parts ≡ parts
unfolding kind_number same_kind
head-past-the-run = refl

pub tail-across-blocks : adjusted (negsuc 2) parts ≡ control_block (1 ∷ 2 ∷ []) ∷ data_block 6 (3 ∷ []) 9 ∷ data_block 8 [] 10 ∷ []
unfolding kind_number same_kind
tail-across-blocks = refl

pub tail-of-the-run : adjusted (negsuc 3) parts ≡ control_block (1 ∷ 2 ∷ []) ∷ data_block 6 [] 10 ∷ data_block 8 [] 10 ∷ []
unfolding kind_number same_kind
tail-of-the-run = refl

pub tail-past-the-run : adjusted (negsuc 4) parts ≡ parts
unfolding kind_number same_kind
tail-past-the-run = refl

pub nothing : adjusted (pos 0) parts ≡ parts
unfolding kind_number same_kind
nothing = refl

-- a block of another kind between two of one kind ends both runs
abbrev apart : List Block
apart = data_block 6 (3 ∷ 4 ∷ []) 7 ∷ control_block [] ∷ data_block 8 (6 ∷ []) 9 ∷ []

pub head-of-the-first : adjusted (pos 1) apart ≡ data_block 6 (4 ∷ []) 7 ∷ control_block [] ∷ data_block 8 (6 ∷ []) 9 ∷ []
unfolding kind_number same_kind
head-of-the-first = refl

pub tail-past-the-last : adjusted (negsuc 1) apart ≡ apart
unfolding kind_number same_kind
tail-past-the-last = refl
