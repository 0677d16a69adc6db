-- Writing the answers of a script.
use Rattle.std.specs.Prelude.{◌≡◌, ℕ, Bool, true, List, [], ◌++◌, Option}
use Rattle.std.specs.Io.KnownBytes.{Appends}

-- a writer took the front of some bytes, and all of them where it went well
pub record Writes (old new : Option (List ℕ)) (bytes : List ℕ) (well : Bool) : Type 0 where
  pub front : List ℕ
  pub rest : List ℕ
  pub appends : Appends old new front
  pub bytes_are : bytes ≡ front ++ rest
  pub all : well ≡ true → rest ≡ []

-- and all of them only where it went well
pub record WritesOut (old new : Option (List ℕ)) (bytes : List ℕ) (well : Bool) : Type 0 where
  pub writes : Writes old new bytes well
  pub left : writes.rest ≡ [] → well ≡ true
