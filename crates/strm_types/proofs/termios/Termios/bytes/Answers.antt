use Rattle.std.proofs.Common.{append-nil, arith, ◌≡◌, ℕ, ◌<◌, ◌^◌, List, length, Some}
use Rattle.std.proofs.lemmas.Nat.{from_be_bytes-to_be_bytes_4}
use Rattle.strm_types.specs.declared.termios.Termios.{Termios}
use Rattle.strm_types.specs.Termios.{read_termios, termios_bytes}
use Rattle.strm_types.proofs.termios.Termios.bytes.Goals as goal

-- the 35 bytes of what a terminal is set to say just that
read_back : (t : Termios) (bytes : List ℕ) → bytes ≡ termios_bytes t → t.iflag.0 < 2 ^ 32 → t.oflag.0 < 2 ^ 32 → t.cflag < 2 ^ 32 → t.lflag.0 < 2 ^ 32 → length t.control ≡ 19 → read_termios bytes ≡ Some t
read_back t bytes is input output hardware local control =
    rw is (simp (control, from_be_bytes-to_be_bytes_4 t.iflag.0 input, from_be_bytes-to_be_bytes_4 t.oflag.0 output, from_be_bytes-to_be_bytes_4 t.cflag hardware, from_be_bytes-to_be_bytes_4 t.lflag.0 local))

pub returns-clause-back : goal.returns-clause-back
returns-clause-back c =
    read_back c.args.self.now _ (simp (c.copy_from_slice.ensures.after, c.copy_from_slice-2.ensures.after, c.copy_from_slice-3.ensures.after, c.copy_from_slice-4.ensures.after, c.copy_from_slice-5.ensures.after, c.to_be_bytes.ensures, c.to_be_bytes-2.ensures, c.to_be_bytes-3.ensures, c.to_be_bytes-4.ensures, append-nil)) (omega arith) (omega arith) (omega arith) (omega arith) (omega arith)
