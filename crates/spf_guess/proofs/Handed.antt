-- Hosts, one of which is asked or told something.
use Rattle.std.proofs.Common.{◌≡◌, ◌⊎◌, inl, inr, Bool, true, false, ℕ, zero, suc, ◌<◌, nat_eq, List, [], ◌∷◌, ◌++◌, map, length, slice_index_or, slice_set, refl, sym, ap, subst, ◌∙◌, ℤ, arith, append_assoc}
use Rattle.std.proofs.lemmas.List.{append-nil}
use Rattle.std.proofs.Common.{eq-eqb}
use Rattle.spf_guess_statistics.specs.Guess.{Told, Hosts, Telling, told_to}
use Rattle.spf_guess.specs.Answers.{Answers, AnswersAlike, WasTold, handed_in, WereTold}

-- what is told in two parts
pub told_to-append : (host : ℕ) (first second : List Telling) → told_to host (first ++ second) ≡ told_to host first ++ told_to host second
told_to-append host [] second = refl
told_to-append host (t ∷ ts) second = go (nat_eq t.host host) refl (told_to-append host ts second)
  where
    go : (b : Bool) → nat_eq t.host host ≡ b → told_to host (ts ++ second) ≡ told_to host ts ++ told_to host second → told_to host (t ∷ ts ++ second) ≡ told_to host (t ∷ ts) ++ told_to host second
    go true e h = rw e (ap (λ more. t.told ∷ more) h)
    go false e h = rw e h

-- what was told, where a pair has another name
pub told-as : (before : Hosts) (telling : List Telling) (host : ℕ) (told pair : Told) (now : Hosts) → told ≡ pair
    → WereTold before (telling ++ record { host = host; told = told } ∷ []) now → WereTold before (telling ++ record { host = host; told = pair } ∷ []) now
told-as before telling host told pair now same were = subst (λ t. WereTold before (telling ++ record { host = host; told = t } ∷ []) now) same were

eq_or_not : (m n : ℕ) → (m ≡ n) ⊎ (nat_eq m n ≡ false)
eq_or_not m n = grind arith

apart-not : (m n : ℕ) → nat_eq m n ≡ false → m ≡ n → ⊥
apart-not m n e same = grind (arith, e, same)

module _ {B : Type 0} (f : B → Answers) where
  -- what these hosts answer
  abbrev pub of : List B → Hosts
  of hosts = handed_in (map f hosts)

  at-host : (hosts : List B) (n : ℕ) (x : B) → n < length hosts → of hosts n ≡ f (slice_index_or hosts n x)
  at-host [] n x h = absurd (omega (arith, h))
  at-host (y ∷ ys) zero x h = refl
  at-host (y ∷ ys) (suc n) x h = at-host ys n x (omega (arith, h))

  set-there : (hosts : List B) (n : ℕ) (x : B) → n < length hosts → of (slice_set hosts n x) n ≡ f x
  set-there [] n x h = absurd (omega (arith, h))
  set-there (y ∷ ys) zero x h = refl
  set-there (y ∷ ys) (suc n) x h = set-there ys n x (omega (arith, h))

  set-elsewhere : (hosts : List B) (n m : ℕ) (x : B) → (n ≡ m → ⊥) → of (slice_set hosts n x) m ≡ of hosts m
  set-elsewhere [] n m x apart = refl
  set-elsewhere (y ∷ ys) zero zero x apart = absurd (apart refl)
  set-elsewhere (y ∷ ys) zero (suc m) x apart = refl
  set-elsewhere (y ∷ ys) (suc n) zero x apart = refl
  set-elsewhere (y ∷ ys) (suc n) (suc m) x apart = set-elsewhere ys n m x (λ e. apart (ap suc e))

  -- one host answers as before, and so do all
  pub all-alike : (hosts : List B) (n : ℕ) (old new : B) → n < length hosts → old ≡ slice_index_or hosts n old → AnswersAlike (f old) (f new)
      → (before : Hosts) (telling : List Telling) → WereTold before telling (of hosts) → WereTold before telling (of (slice_set hosts n new))
  all-alike hosts n old new h read alike before telling were m pairs block = go (eq_or_not n m)
    where
      go : (n ≡ m) ⊎ (nat_eq n m ≡ false) → of (slice_set hosts n new) m pairs block ≡ before m (told_to m telling ++ pairs) block
      go (inl e) =
          subst (λ k. of (slice_set hosts n new) k pairs block ≡ of hosts k pairs block) e
          (ap (λ (answers : Answers). answers pairs block) (set-there hosts n new h)
          ∙ alike pairs block
          ∙ ap (λ host. f host pairs block) read
          ∙ sym (ap (λ (answers : Answers). answers pairs block) (at-host hosts n old h)))
          ∙ were m pairs block
      go (inr e) = ap (λ (answers : Answers). answers pairs block) (set-elsewhere hosts n m new (apart-not n m e)) ∙ were m pairs block

  -- one host was told one more pair
  pub one-told : (hosts : List B) (n : ℕ) (old new : B) (told : Told) → n < length hosts → old ≡ slice_index_or hosts n old → WasTold (f old) told (f new)
      → (before : Hosts) (telling : List Telling) → WereTold before telling (of hosts) → WereTold before (telling ++ record { host = n; told = told } ∷ []) (of (slice_set hosts n new))
  one-told hosts n old new told h read was before telling were m pairs block = go (eq_or_not n m)
    where
      go : (n ≡ m) ⊎ (nat_eq n m ≡ false) → of (slice_set hosts n new) m pairs block ≡ before m (told_to m (telling ++ record { host = n; told = told } ∷ []) ++ pairs) block
      go (inl e) =
          subst (λ k. of (slice_set hosts n new) k pairs block ≡ before k (told_to k (telling ++ record { host = n; told = told } ∷ []) ++ pairs) block) e
          (ap (λ (answers : Answers). answers pairs block) (set-there hosts n new h)
          ∙ was pairs block
          ∙ ap (λ host. f host (told ∷ pairs) block) read
          ∙ sym (ap (λ (answers : Answers). answers (told ∷ pairs) block) (at-host hosts n old h))
          ∙ were n (told ∷ pairs) block
          ∙ ap (λ ps. before n ps block) (sym (ap (λ ps. ps ++ pairs) (told_to-append n telling (record { host = n; told = told } ∷ [])) ∙ rw (eq-eqb n n refl) (append_assoc (told_to n telling) (told ∷ []) pairs))))
      go (inr e) =
          ap (λ (answers : Answers). answers pairs block) (set-elsewhere hosts n m new (apart-not n m e))
          ∙ were m pairs block
          ∙ ap (λ ps. before m (ps ++ pairs) block) (sym (told_to-append m telling (record { host = n; told = told } ∷ []) ∙ rw e (append-nil (told_to m telling))))

  -- what a host guesses after what was told
  pub guess-is : (hosts : List B) (n : ℕ) (old : B) (block : ℤ) → n < length hosts → old ≡ slice_index_or hosts n old
      → (before : Hosts) (telling : List Telling) → WereTold before telling (of hosts) → f old [] block ≡ before n (told_to n telling) block
  guess-is hosts n old block h read before telling were =
      ap (λ host. f host [] block) read
      ∙ sym (ap (λ (answers : Answers). answers [] block) (at-host hosts n old h))
      ∙ were n [] block
      ∙ ap (λ told. before n told block) (append-nil (told_to n telling))
