-- The front of bytes and what is behind it.
use Rattle.std.proofs.Common.{ℕ, ◌≡◌, List, length, take, drop, sym, ap, ◌∙◌, arith, min}
use Rattle.std.proofs.lemmas.List.{take_all}
use Rattle.std.proofs.Math.ListN.{drop_of_length-le}
use Rattle.std.proofs.Math.Decide.{dec_le}

-- a chunk is at most 256 bytes
pub front-256 : (n : ℕ) (bytes : List ℕ) → n ≡ min (length bytes) 256 → take n bytes ≡ take 256 bytes
front-256 n bytes is = elim (dec_le (length bytes) 256) [ yes le ↦ take_all n bytes (omega arith) ∙ sym (take_all 256 bytes le) | no gt ↦ let e : n ≡ 256 = omega arith in ap (λ k. take k bytes) e ]

pub back-256 : (n : ℕ) (bytes : List ℕ) → n ≡ min (length bytes) 256 → drop n bytes ≡ drop 256 bytes
back-256 n bytes is = elim (dec_le (length bytes) 256) [ yes le ↦ drop_of_length-le bytes {i = n} (omega arith) ∙ sym (drop_of_length-le bytes {i = 256} le) | no gt ↦ let e : n ≡ 256 = omega arith in ap (λ k. drop k bytes) e ]
