-- Known bytes of readers and writers, one call after another.
use Rattle.std.proofs.Common.{◌≡◌, ℕ, List, [], ◌++◌, Option, None, Some, refl, sym, ap, ◌∙◌, append_assoc, append-nil, take, drop, Bool, true, false, ◌+◌, ◌-◌, ◌<◌, ◌≤◌, length, arith, length-drop, subst, inl, inr}
use Rattle.std.proofs.lemmas.Bool.{cases_Bool}
use Rattle.std.proofs.lemmas.List.{take-append-drop, take_rest, nil_from_length}
use Rattle.std.proofs.Math.Seq.{take-add}
use Rattle.strm_script.specs.Output.{WritesOut}
use Rattle.std.specs.Io.KnownBytes.{Appends, Keeps, Consumes}

pub Appends-none : (a : Option (List ℕ)) → Appends a a []
Appends-none None = tt
Appends-none (Some xs) = sym (append-nil xs)

pub Appends-join : (a b c : Option (List ℕ)) (x y : List ℕ) → Appends a b x → Appends b c y → Appends a c (x ++ y)
Appends-join None b c x y f g = tt
Appends-join (Some xs) None c x y f g = absurd f
Appends-join (Some xs) (Some ys) None x y f g = absurd g
Appends-join (Some xs) (Some ys) (Some zs) x y f g = g ∙ ap (λ k. k ++ y) f ∙ append_assoc xs x y

pub Appends-kept : (a b c : Option (List ℕ)) (x : List ℕ) → Appends a b x → Keeps b c → Appends a c x
Appends-kept None b c x f g = tt
Appends-kept (Some xs) None c x f g = absurd f
Appends-kept (Some xs) (Some ys) None x f g = absurd g
Appends-kept (Some xs) (Some ys) (Some zs) x f g = g ∙ f

pub Consumes-none : (a : Option (List ℕ)) → Consumes a a []
Consumes-none None = tt
Consumes-none (Some xs) = refl

pub Consumes-join : (a b c : Option (List ℕ)) (x y : List ℕ) → Consumes a b x → Consumes b c y → Consumes a c (x ++ y)
Consumes-join None b c x y f g = tt
Consumes-join (Some xs) None c x y f g = absurd f
Consumes-join (Some xs) (Some ys) None x y f g = absurd g
Consumes-join (Some xs) (Some ys) (Some zs) x y f g = f ∙ ap (λ k. x ++ k) g ∙ sym (append_assoc x y zs)

pub Consumes-kept : (a b c : Option (List ℕ)) (x : List ℕ) → Consumes a b x → Keeps b c → Consumes a c x
Consumes-kept None b c x f g = tt
Consumes-kept (Some xs) None c x f g = absurd f
Consumes-kept (Some xs) (Some ys) None x f g = absurd g
Consumes-kept (Some xs) (Some ys) (Some zs) x f g = f ∙ ap (λ k. x ++ k) (sym g)

pub Appends-at : (w0 w1 : Option (List ℕ)) (x y : List ℕ) → x ≡ y → Appends w0 w1 x → Appends w0 w1 y
Appends-at w0 w1 x y e h = subst (λ k. Appends w0 w1 k) e h

-- and more behind it
pub Appends-more : (w0 w1 w2 : Option (List ℕ)) (bytes : List ℕ) (n k : ℕ) → Appends w0 w1 (take n bytes) → Appends w1 w2 (take k (drop n bytes)) → Appends w0 w2 (take (n + k) bytes)
Appends-more w0 w1 w2 bytes n k x y =
    Appends-at w0 w2 _ _ (sym (take-add n k bytes)) (Appends-join w0 w1 w2 (take n bytes) (take k (drop n bytes)) x y)

-- so many of some bytes are written, and it went well where these are all
pub WritesOut-at : (w0 w1 : Option (List ℕ)) (bytes : List ℕ) (n : ℕ) (well : Bool) → Appends w0 w1 (take n bytes)
    → (well ≡ true → length bytes ≤ n) → (well ≡ false → n < length bytes) → WritesOut w0 w1 bytes well
WritesOut-at w0 w1 bytes n well x all left = record {
  writes = record {
    front = take n bytes;
    rest = drop n bytes;
    appends = x;
    bytes_are = sym (take-append-drop n bytes);
    all = λ e. nil_from_length (drop n bytes) (omega (arith, all e, length-drop n bytes));
  };
  left = λ none. elim (cases_Bool well) [
    | inl e ↦ e
    | inr e ↦ absurd (omega (arith, left e, ap length none, length-drop n bytes))
  ];
}

-- the bytes behind a place, as a slice has them
pub record Slices (bytes : List ℕ) (n k : ℕ) : Type 0 where
  pub same : take (length bytes - n) (drop n bytes) ≡ drop n bytes
  pub within : k ≤ length (take (length bytes - n) (drop n bytes)) → n + k ≤ length bytes

pub slices : (bytes : List ℕ) (n k : ℕ) → n ≤ length bytes → Slices bytes n k
slices bytes n k h =
    let same = take_rest bytes n in
    record { same = same; within = λ b. omega (arith, ap length same, length-drop n bytes) }

pub Appends-slice : (w0 w1 w2 : Option (List ℕ)) (bytes : List ℕ) (n k : ℕ) → n ≤ length bytes → Appends w0 w1 (take n bytes)
    → Appends w1 w2 (take k (take (length bytes - n) (drop n bytes))) → Appends w0 w2 (take (n + k) bytes)
Appends-slice w0 w1 w2 bytes n k h x y =
    Appends-more w0 w1 w2 bytes n k x (Appends-at w1 w2 _ _ (ap (take k) (take_rest bytes n)) y)
