-- Two kinds of one number are one.
use Rattle.std.proofs.Common.{ℕ, ◌≡◌, ◌∙◌, true, cond, eqb, refl, sym, ap}
use Rattle.std.proofs.lemmas.Bool.{eqb-true, eq-eqb}
use Rattle.strm_types.specs.declared.kinds.MsgKind.{MsgKind}
use Rattle.strm_types.specs.declared.kinds.MsgKind.TheVariants as kinds
use Rattle.strm_types.specs.Kinds.{kind_number}
use Rattle.strm_msg.specs.Runs.{same_kind}

-- the kind of a number
abbrev kind_of : ℕ → MsgKind
kind_of n =
    cond (eqb n 0x00) kinds.Data (cond (eqb n 0x01) kinds.Proto (cond (eqb n 0x0b) kinds.Sig (cond (eqb n 0x0d) kinds.Ctl
    (cond (eqb n 0x0e) kinds.Ioctl (cond (eqb n 0x10) kinds.Setopts (cond (eqb n 0x81) kinds.Iocack (cond (eqb n 0x82) kinds.Iocnak
    (cond (eqb n 0x83) kinds.Pcproto (cond (eqb n 0x84) kinds.Pcsig (cond (eqb n 0x85) kinds.Read (cond (eqb n 0x86) kinds.Flush
    (cond (eqb n 0x87) kinds.Stop (cond (eqb n 0x88) kinds.Start (cond (eqb n 0x89) kinds.Hangup kinds.Error))))))))))))))

kind-of-number : (k : MsgKind) → kind_of (kind_number k) ≡ k
unfolding kind_number
kind-of-number kinds.Data = refl
kind-of-number kinds.Proto = refl
kind-of-number kinds.Sig = refl
kind-of-number kinds.Ctl = refl
kind-of-number kinds.Ioctl = refl
kind-of-number kinds.Setopts = refl
kind-of-number kinds.Iocack = refl
kind-of-number kinds.Iocnak = refl
kind-of-number kinds.Pcproto = refl
kind-of-number kinds.Pcsig = refl
kind-of-number kinds.Read = refl
kind-of-number kinds.Flush = refl
kind-of-number kinds.Stop = refl
kind-of-number kinds.Start = refl
kind-of-number kinds.Hangup = refl
kind-of-number kinds.Error = refl

same-one : (a b : MsgKind) → kind_number a ≡ kind_number b → a ≡ b
same-one a b same = sym (kind-of-number a) ∙ ap kind_of same ∙ kind-of-number b

pub same-number : (a b : MsgKind) {m n : ℕ} → m ≡ kind_number a → n ≡ kind_number b → eqb m n ≡ true → a ≡ b
same-number a b {m} {n} m_is n_is same = same-one a b (sym m_is ∙ eqb-true m n same ∙ n_is)

pub one-number : (a b : MsgKind) {m n : ℕ} → m ≡ kind_number a → n ≡ kind_number b → a ≡ b → eqb m n ≡ true
one-number a b {m} {n} m_is n_is one = eq-eqb m n (m_is ∙ ap kind_number one ∙ sym n_is)

pub one-kind : (a b : MsgKind) → same_kind a b ≡ true → a ≡ b
unfolding same_kind
one-kind a b same = same-one a b (eqb-true (kind_number a) (kind_number b) same)

pub same-kind : (a : MsgKind) → same_kind a a ≡ true
unfolding same_kind
same-kind a = eq-eqb (kind_number a) (kind_number a) refl
