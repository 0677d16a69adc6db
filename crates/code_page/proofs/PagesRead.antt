-- What is read of an M_IOCTL with a page.
use Rattle.std.proofs.Common.{ℕ, suc, Fits, w8, ◌≡◌, ◌≢◌, min, true, false, List, [], ◌∷◌, length, get_or, take, drop, refl, sym, ap, ◌∙◌, arith}
use Rattle.std.proofs.lemmas.Bool.Decides.{nat_tests}
use Rattle.std.proofs.lemmas.List.{drop-take, length-drop, take_all}
use Rattle.std.specs.Prelude.{◌%◌}
use Rattle.strm_types.specs.Acks.{payload}
use Rattle.strm_frame.specs.Prelude.{filled}
use Rattle.strm_frame.proofs.Read.{first-of}
use Rattle.code_page.specs.CodePages.{is_page, page_of}

-- whether a module is set to a page
pub page-is : (bytes settings : List ℕ) → bytes ≡ settings → length bytes ≡ 256 → is_page settings ≡ true
page-is bytes settings same long = let left = ap length same in grind (arith, nat_tests)

pub no-page : (bytes settings : List ℕ) → bytes ≡ settings → length bytes ≢ 256 → is_page settings ≡ false
no-page bytes settings same other = let left = ap length same in grind (arith, nat_tests)

-- bytes stay as they are
pub same-bytes : (bytes : List ℕ) → ((i : ℕ) → Fits w8 (get_or bytes i 0)) → page_of bytes ≡ bytes
same-bytes [] low = refl
same-bytes (b ∷ bytes) low =
    let few : Fits w8 b = low 0 in
    let first : b % 256 ≡ b = omega arith in
    ap (λ n. n ∷ page_of bytes) first ∙ ap (λ xs. b ∷ xs) (same-bytes bytes (λ i. low (suc i)))

-- a page came where so many bytes were read, of one more that there was room for
module _ (buffer bytes : List ℕ) (count : ℕ) (long : length buffer ≡ 273) (is : count ≡ min (length buffer) (length bytes)) where
  pub page-came : count ≡ 272 → is_page (payload bytes) ≡ true
  page-came all =
      let left : length (payload bytes) ≡ 256 = omega (arith, all, long, is, length-drop 16 bytes) in
      grind (arith, nat_tests)

  pub none-came : count ≢ 272 → is_page (payload bytes) ≡ false
  none-came other =
      let left : length (payload bytes) ≢ 256 = λ e. other (omega (arith, e, long, is, length-drop 16 bytes)) in
      grind (arith, nat_tests)

  pub page-read : count ≡ 272 → take 256 (drop 16 (filled buffer bytes)) ≡ payload bytes
  page-read all =
      let few : length bytes ≡ 272 = omega (arith, long, is, all) in
      let whole : take 272 bytes ≡ bytes = take_all 272 bytes (omega arith) in
      let there = ap (λ n. take n (filled buffer bytes)) (sym all) ∙ first-of buffer bytes count is ∙ ap (λ n. take n bytes) long in
      sym (drop-take 16 256 (filled buffer bytes)) ∙ ap (λ xs. drop 16 xs) (there ∙ take_all 273 bytes (omega arith))
