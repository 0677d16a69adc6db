-- Which M_IOCTL asks the module, and what its answer is.
use Rattle.std.proofs.Common.{ℕ, ◌≡◌, Bool, true, false, List, [], ◌∷◌, refl, sym, ap, ◌∙◌, arith, append-nil}
use Rattle.std.proofs.lemmas.Bool.Decides.{nat_tests}
use Rattle.std.specs.Prelude.{◌==◌, cond, Option, None, Some}
use Rattle.strm_types.specs.declared.ioctls.Ioc.{Ioc}
use Rattle.strm_types.specs.declared.kinds.MsgKind.{MsgKind}
use Rattle.strm_types.specs.declared.kinds.MsgKind.TheVariants.{Iocack, Iocnak}
use Rattle.strm_types.specs.declared.names.Way.TheVariants.{Up}
use Rattle.strm_types.specs.declared.spots.Spot.{Spot}
use Rattle.strm_types.specs.Acks.{acked}
use Rattle.strm_types.specs.Deliver.{Acted, onward}
use Rattle.strm_types.specs.Ioctls.{ioc_bytes, refused}
use Rattle.strm_types.specs.Owns.{Own}
use Rattle.strm_types.specs.Typing.{bare}
use Rattle.code_page.specs.declared.TheConstants.{SETPAGE}
use Rattle.code_page.specs.CodePages.{answered, is_page, page_command, page_of}

pub asks-nothing : (asked : Bool) (o : Option Ioc) → asked ≡ false → page_command asked o ≡ None
asks-nothing asked o is = ap (λ b. page_command b o) is ∙ by o
  where
    by : (o : Option Ioc) → page_command false o ≡ None
    by None = refl
    by (Some ioc) = refl

pub asks-page : (asked : Bool) (o : Option Ioc) (ioc : Ioc) → asked ≡ true → o ≡ Some ioc → ioc.command ≡ SETPAGE → page_command asked o ≡ Some ioc
asks-page asked o ioc is header command =
    let yes : (ioc.command == SETPAGE) ≡ true = grind (arith, nat_tests) in
    ap (λ b. page_command b o) is ∙ ap (λ h. page_command true h) header ∙ ap (λ b. cond b (Some ioc) None) yes

-- what answers it, made of a kind and of bytes
abbrev pub answer_of : MsgKind → List ℕ → Spot → Own → Acted ℕ Own
answer_of kind bytes here x = record { state = x; notes = []; sent = onward Up here (bare kind bytes) ∷ []; gone = [] }

module _ (ioc : Ioc) (here : Spot) (given bytes : List ℕ) (x y : Own) where
  pub obeyed : is_page given ≡ true → y ≡ record x { settings = page_of given } → bytes ≡ ioc_bytes (acked ioc)
      → answer_of Iocack bytes here y ≡ answered (is_page given) ioc here given x
  obeyed page state is =
      ap (λ z. answer_of Iocack bytes here z) state
      ∙ ap (λ bs. answer_of Iocack bs here (record x { settings = page_of given })) (is ∙ sym (append-nil (ioc_bytes (acked ioc))))
      ∙ ap (λ b. answered b ioc here given x) (sym page)

  pub not-obeyed : is_page given ≡ false → y ≡ x → bytes ≡ ioc_bytes (refused ioc)
      → answer_of Iocnak bytes here y ≡ answered (is_page given) ioc here given x
  not-obeyed page state is =
      ap (λ z. answer_of Iocnak bytes here z) state
      ∙ ap (λ bs. answer_of Iocnak bs here x) is
      ∙ ap (λ b. answered b ioc here given x) (sym page)
