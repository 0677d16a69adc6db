-- What a message of data bytes that was made stands for.
use Rattle.std.proofs.Common.{ℕ, zero, suc, ◌≡◌, ◌<◌, List, [], ◌∷◌, length, map, refl, sym, ap, ◌∙◌, arith}
use Rattle.strm_types.specs.declared.kinds.MsgKind.TheVariants as kinds
use Rattle.strm_types.specs.Message.{data_message}
use Rattle.strm_types.specs.Write.{chunk_count, chunks_of}
use Rattle.strm_blocks.specs.Blocks.{Block, StoreValue, block_at, in_hand}
use Rattle.strm_blocks.proofs.Laws.{in_hand-held}
use Rattle.strm_msg.specs.Bytes.{bytes_of, data_bytes}
use Rattle.strm_msg.specs.Made.{MadeOf, copies_of, piece, pieces}
use Rattle.strm_msg.specs.Messages.{message_of, AreData, IsChain}
use Rattle.strm_msg.proofs.Chains.{data-shown, data_in, data-all, data-control}
use Rattle.strm_msg.proofs.Pieces.{length-pieces, chunk-some}

pieces-data : (band : ℕ) (chunks : List (List ℕ)) → AreData (map (piece kinds.Data band) chunks)
pieces-data band [] = tt
pieces-data band (xs ∷ chunks) = (refl, pieces-data band chunks)

copies-data : (numbers : List ℕ) (like : List Block) → AreData like → AreData (copies_of numbers like)
copies-data [] like all = tt
copies-data (d ∷ numbers) [] all = tt
copies-data (d ∷ numbers) (b ∷ like) all = (all.0, copies-data numbers like all.1)

-- the first copy is one of the first block
record First (band : ℕ) (chain : List Block) : Type 0 where
  some : 0 < length chain
  kind : (block_at 0 chain).kind ≡ kinds.Data
  band_is : (block_at 0 chain).band ≡ band

first-copy : (band count : ℕ) (bytes numbers : List ℕ) → 0 < count → length numbers ≡ count → First band (copies_of numbers (map (piece kinds.Data band) (chunks_of count bytes)))
first-copy band zero bytes numbers some is = absurd (omega arith)
first-copy band (suc count) bytes [] some is = absurd (omega arith)
first-copy band (suc count) bytes (d ∷ numbers) some is = record { some = omega arith; kind = refl; band_is = refl }

-- a message that is M_DATA, of band 0, with these bytes
pub record IsDataOf (chain : List Block) (bytes : List ℕ) : Type 0 where
  pub one : IsChain chain
  pub kind : (block_at 0 chain).kind ≡ kinds.Data
  pub is : message_of chain ≡ data_message bytes

is-data : (chain : List Block) (bytes : List ℕ) → First 0 chain → AreData chain → bytes_of chain ≡ bytes → IsDataOf chain bytes
unfolding data_message
is-data chain bytes first all shown = record {
  one = record {
    some = first.some;
    all_data = λ k. all;
    parted = λ control. absurd (let no = data-control (block_at 0 chain).kind first.kind in cc);
    high = λ high. first.band_is;
    low = omega (arith, first.band_is);
  };
  kind = first.kind;
  is = data-shown chain first.some first.kind ∙ ap (λ b. data_in b (data_bytes chain)) first.band_is ∙ ap (λ xs. data_in 0 xs) (ap bytes_of (data-all chain all) ∙ shown);
}

pub made-data : (old new : StoreValue) (i : ℕ) (bytes : List ℕ) → MadeOf old new i kinds.Data 0 bytes → IsDataOf (in_hand new i) bytes
made-data old new i bytes m =
    let count = chunk_count (length bytes) in
    let long : length m.made.numbers ≡ count = m.made.count ∙ length-pieces kinds.Data 0 bytes count in
    let chain : in_hand new i ≡ copies_of m.made.numbers (pieces kinds.Data 0 bytes) = ap (λ v. in_hand v i) m.made.after ∙ in_hand-held old i (copies_of m.made.numbers (pieces kinds.Data 0 bytes)) in
    rw chain (is-data (copies_of m.made.numbers (pieces kinds.Data 0 bytes)) bytes (first-copy 0 count bytes m.made.numbers (chunk-some (length bytes)) long) (copies-data m.made.numbers (pieces kinds.Data 0 bytes) (pieces-data 0 (chunks_of count bytes))) (ap bytes_of (sym chain) ∙ m.shows))
