-- What is read in order, and then the tests of the whole.
use Rattle.strm_image.proofs.Prelude.{◌≡◌, true, false, List, ℕ, Some, refl, sym, ◌∙◌, arith, le-ltb, lt-ltb}
use Rattle.strm_image.specs.declared.versions.Version.{Version}
use Rattle.strm_image.specs.AccountTexts.{account_now}
use Rattle.strm_image.specs.Codes.{flag, openness}
use Rattle.strm_image.specs.Format.{Format, ◌then◌, made, only, u32}
use Rattle.strm_image.specs.Image.{Imaged, account, are_balanced, are_quiet, are_there, body, enabled, imaged_of, imaged_parts, is_number}
use Rattle.strm_image.specs.Messages.{any}
use Rattle.strm_image.specs.StreamTexts.{laid_now}
use Rattle.strm_image.specs.Streams.{laid}
use Rattle.strm_image.proofs.Formats.{three_fail, three_pass}
use Rattle.strm_image.proofs.image.state_at.Goals as goal

-- the parts, without the tests of the whole
abbrev parts : Version → Format Imaged
parts v = made any imaged_of imaged_parts
    (openness then (openness then (flag then (only is_number u32 then (laid v false then (laid v true then (enabled then (account then account))))))))

pub returns-in_err-master_opened : goal.returns-in_err-master_opened
unfolding body
returns-in_err-master_opened c = rw (c.from_residual.ensures, c.in_err-master_opened.ensures) refl

pub returns-in_err-slave_opened : goal.returns-in_err-slave_opened
unfolding body
returns-in_err-slave_opened c = rw (c.from_residual-in_err-slave_opened.ensures, c.in_ok-master_opened.ensures, c.in_err-slave_opened.ensures) refl

pub returns-in_err-locked : goal.returns-in_err-locked
unfolding body
returns-in_err-locked c = rw (c.from_residual-in_err-locked.ensures, c.in_ok-master_opened.ensures, c.in_ok-slave_opened.ensures, c.in_err-locked.ensures) refl

pub returns-in_err-next_ioctl : goal.returns-in_err-next_ioctl
unfolding body
returns-in_err-next_ioctl c = rw (c.from_residual-in_err-next_ioctl.ensures, c.in_ok-master_opened.ensures, c.in_ok-slave_opened.ensures, c.in_ok-locked.ensures, c.in_err-next_ioctl.ensures) refl

pub returns-then-next_ioctl-lt1 : goal.returns-then-next_ioctl-lt1
unfolding body
returns-then-next_ioctl-lt1 c = rw (c.in_ok-master_opened.ensures, c.in_ok-slave_opened.ensures, c.in_ok-locked.ensures, c.in_ok-next_ioctl.ensures, le-ltb 0 c.in_ok-next_ioctl.next_ioctl (omega (arith, c.if-next_ioctl-lt1.true))) refl

pub returns-in_err-master : goal.returns-in_err-master
unfolding body
returns-in_err-master c = rw (c.from_residual-in_err-master.ensures, c.in_ok-master_opened.ensures, c.in_ok-slave_opened.ensures, c.in_ok-locked.ensures, c.in_ok-next_ioctl.ensures, lt-ltb 0 c.in_ok-next_ioctl.next_ioctl (omega (arith, c.if-next_ioctl-lt1.false)), c.in_err-master.ensures) refl

pub returns-in_err-slave : goal.returns-in_err-slave
unfolding body
returns-in_err-slave c = rw (c.from_residual-in_err-slave.ensures, c.in_ok-master_opened.ensures, c.in_ok-slave_opened.ensures, c.in_ok-locked.ensures, c.in_ok-next_ioctl.ensures, lt-ltb 0 c.in_ok-next_ioctl.next_ioctl (omega (arith, c.if-next_ioctl-lt1.false)), c.in_ok-master.ensures, c.in_err-slave.ensures) refl

pub returns-in_err-enabled : goal.returns-in_err-enabled
unfolding body
returns-in_err-enabled c = rw (c.from_residual-in_err-enabled.ensures, c.in_ok-master_opened.ensures, c.in_ok-slave_opened.ensures, c.in_ok-locked.ensures, c.in_ok-next_ioctl.ensures, lt-ltb 0 c.in_ok-next_ioctl.next_ioctl (omega (arith, c.if-next_ioctl-lt1.false)), c.in_ok-master.ensures, c.in_ok-slave.ensures, c.in_err-enabled.ensures) refl

pub returns-in_err-accounts : goal.returns-in_err-accounts
unfolding body
returns-in_err-accounts c = rw (c.from_residual-in_err-accounts.ensures, c.in_ok-master_opened.ensures, c.in_ok-slave_opened.ensures, c.in_ok-locked.ensures, c.in_ok-next_ioctl.ensures, lt-ltb 0 c.in_ok-next_ioctl.next_ioctl (omega (arith, c.if-next_ioctl-lt1.false)), c.in_ok-master.ensures, c.in_ok-slave.ensures, c.in_ok-enabled.ensures, c.in_err-accounts.ensures) refl

pub returns-then-not-holds : goal.returns-then-not-holds
unfolding body
returns-then-not-holds c =
    let x : Imaged × List ℕ = (
      imaged_of (
        c.in_ok-master_opened.master_opened,
        (
          c.in_ok-slave_opened.slave_opened,
          (
            c.in_ok-locked.locked,
            (
              c.in_ok-next_ioctl.next_ioctl,
              (
                laid_now c.in_ok-master.master,
                (
                  laid_now c.in_ok-slave.slave,
                  (c.in_ok-enabled.enabled.items, (account_now c.in_ok-accounts.accounts.master, account_now c.in_ok-accounts.accounts.slave)),
                ),
              ),
            ),
          ),
        ),
      ),
      c.in_ok-accounts.rest.now,
    ) in
    let read : (parts c.args.version).read c.args.text.now ≡ Some x = rw (c.in_ok-master_opened.ensures, c.in_ok-slave_opened.ensures, c.in_ok-locked.ensures, c.in_ok-next_ioctl.ensures, lt-ltb 0 c.in_ok-next_ioctl.next_ioctl (omega (arith, c.if-next_ioctl-lt1.false)), c.in_ok-master.ensures, c.in_ok-slave.ensures, c.in_ok-enabled.ensures, c.in_ok-accounts.ensures) refl in
    three_fail are_quiet are_there are_balanced (parts c.args.version) c.args.text.now x read (sym c.holds.ensures ∙ c.if-not-holds.true)

pub returns : goal.returns
unfolding body
returns c =
    let x : Imaged × List ℕ = (
      imaged_of (
        c.in_ok-master_opened.master_opened,
        (
          c.in_ok-slave_opened.slave_opened,
          (
            c.in_ok-locked.locked,
            (
              c.in_ok-next_ioctl.next_ioctl,
              (
                laid_now c.in_ok-master.master,
                (
                  laid_now c.in_ok-slave.slave,
                  (c.in_ok-enabled.enabled.items, (account_now c.in_ok-accounts.accounts.master, account_now c.in_ok-accounts.accounts.slave)),
                ),
              ),
            ),
          ),
        ),
      ),
      c.in_ok-accounts.rest.now,
    ) in
    let read : (parts c.args.version).read c.args.text.now ≡ Some x = rw (c.in_ok-master_opened.ensures, c.in_ok-slave_opened.ensures, c.in_ok-locked.ensures, c.in_ok-next_ioctl.ensures, lt-ltb 0 c.in_ok-next_ioctl.next_ioctl (omega (arith, c.if-next_ioctl-lt1.false)), c.in_ok-master.ensures, c.in_ok-slave.ensures, c.in_ok-enabled.ensures, c.in_ok-accounts.ensures) refl in
    three_pass are_quiet are_there are_balanced (parts c.args.version) c.args.text.now x read (sym c.holds.ensures ∙ c.if-not-holds.false)
