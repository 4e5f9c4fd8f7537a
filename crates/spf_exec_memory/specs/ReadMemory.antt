-- What a list of events does to cells that are only read.
use Rattle.std.specs.Prelude.{◌≡◌, List, [], ◌∷◌, ◌++◌, None, ℤ, refl}
use Rattle.std.proofs.Common.{◌∙◌, subst}
use Rattle.spf_ast.specs.Event.{Event, Load, Store, Turn, word_at}
use Rattle.spf_exec_memory.specs.MemoryLaws.{Laws}

-- each load gives the word of the cells, whatever was stored before
abbrev pub IsReadOf : List ℤ → List Event → Type 0
IsReadOf cells [] = Unit {0}
IsReadOf cells (Load cell word ∷ es) = (word ≡ word_at cells cell) × IsReadOf cells es
IsReadOf cells (Store cell word ∷ es) = IsReadOf cells es
IsReadOf cells (Turn number ∷ es) = IsReadOf cells es

-- the loads are of these cells, which are the same afterwards
pub record LeadsUnstored (es : List Event) (m n : List ℤ) : Type 0 where
  pub same : n ≡ m
  pub read : IsReadOf m es

joined_read : (es fs : List Event) (m : List ℤ) → IsReadOf m es → IsReadOf m fs → IsReadOf m (es ++ fs)
joined_read [] fs m p q = q
joined_read (Load c w ∷ es) fs m p q = (p.0, joined_read es fs m p.1 q)
joined_read (Store c w ∷ es) fs m p q = joined_read es fs m p q
joined_read (Turn n ∷ es) fs m p q = joined_read es fs m p q

-- cells that are only read keep the laws of memories
pub unstored_laws : {S : Type 0} (cells : S → List ℤ) → Laws {M = S} (λ es a b. LeadsUnstored es (cells a) (cells b)) (λ s. None)
unstored_laws cells = record {
  empty = λ m. record { same = refl; read = tt };
  joined = λ es fs a b c p q. record { same = q.same ∙ p.same; read = joined_read es fs (cells a) p.read (subst (λ m. IsReadOf m fs) p.same q.read) };
  keeps_stop = λ es a b p. refl;
}
