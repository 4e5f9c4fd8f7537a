-- The answer for a whole program.
use Rattle.std.proofs.Common.{◌≡◌, ◌⊎◌, ℕ, [], ◌∷◌, inl, inr, List, ◌++◌, Option, Some, None, Result, Ok, Err, refl, sym, ap, ◌∙◌, subst}
use Rattle.std.specs.Prelude.{IfOk, IsOkUnless}
use Rattle.spf_ast.specs.declared.syntax.Program as code_program
use Rattle.spf_ast.specs.Syntax.{Program}
use Rattle.spf_ast.specs.RawSyntax.{RawProgram}
use Rattle.spf_ast.specs.View.{program}
use Rattle.spf_ast.specs.Lawful.{IsScoped}
use Rattle.spf_ast.specs.Spelling.{IsWellFormed, spelled}
use Rattle.spf_types_names.specs.declared.fault.TypeFault.{TypeFault}
use Rattle.spf_types_names.specs.declared.fault.TypeError.{TypeError}
use Rattle.spf_types_names.specs.declared.fault.TypeError.TheVariants.{Refused, OutOfMemory}
use Rattle.spf_types_names.specs.Faults.{Fault, faults, first}
use Rattle.spf_types_names.specs.Resolved.{resolved}
use Rattle.spf_types_names.specs.Answers.{Answers}
use Rattle.spf_types.specs.Contract.{IsResolved, IsRefused}
use Rattle.spf_types.specs.TooLarge.{limits_passed}
use Rattle.spf_types_forms.proofs.Steps.{ahead, behind, none_in, first_in, append_none}
use Rattle.spf_types.proofs.Kept.{none_passed, kept_none}
use Rattle.spf_types.proofs.SoundPrograms.{program_ok}
use Rattle.spf_types.proofs.UniquePrograms.{program_same}
use Rattle.spf_types.proofs.FaultlessPrograms.{spelled_faultless}

-- a raw program without faults that passes no limit stands for what it resolves to
pub resolved_is : (raw : RawProgram) → faults raw ≡ [] → limits_passed raw.main_line (resolved raw) ≡ [] → IsWellFormed raw → IsResolved raw (resolved raw)
resolved_is raw h k w =
    let p = program_ok raw h w in
    record { spelling = p.1; lawful = record { scoped = p.0; limits = none_passed raw.main_line (resolved raw) k } }

-- and for nothing else
pub resolved_only : (raw : RawProgram) (q : Program) → spelled raw.main_line q ≡ raw → IsScoped q → q ≡ resolved raw
resolved_only raw q spelling scoped = sym (program_same raw.main_line q scoped) ∙ ap resolved spelling

-- what spells a scoped program has no faults
pub none_of_scoped : (raw : RawProgram) (q : Program) → spelled raw.main_line q ≡ raw → IsScoped q → faults raw ≡ []
none_of_scoped raw q spelling scoped = subst (λ r. faults r ≡ []) spelling (spelled_faultless raw.main_line q scoped)

-- the faults of a raw program, and then where it passes limits
abbrev pub all_faults : RawProgram → List Fault
all_faults raw = faults raw ++ limits_passed raw.main_line (resolved raw)

none_of_lawful : (raw : RawProgram) (q : Program) → IsResolved raw q → all_faults raw ≡ []
none_of_lawful raw q k =
    none_in (faults raw) (limits_passed raw.main_line (resolved raw)) (none_of_scoped raw q k.spelling k.lawful.scoped)
    (subst (λ p. limits_passed raw.main_line p ≡ []) (resolved_only raw q k.spelling k.lawful.scoped) (kept_none raw.main_line q k.lawful.limits))

first_of_refused : (raw : RawProgram) (what : TypeFault) (line : ℕ) → IsRefused raw what line → first (all_faults raw) ≡ Some (record { what = what; line = line })
first_of_refused raw what line (inl k) = ahead (faults raw) (limits_passed raw.main_line (resolved raw)) (Refused what line) k
first_of_refused raw what line (inr k) =
    behind (faults raw) (limits_passed raw.main_line (resolved raw)) (Refused what line) (none_of_scoped raw k.program k.spelling k.scoped)
    (subst (λ p. first (limits_passed raw.main_line p) ≡ Some (record { what = what; line = line })) (resolved_only raw k.program k.spelling k.scoped) k.passed)

refused_of_first : (raw : RawProgram) → IsWellFormed raw → (what : TypeFault) (line : ℕ) → first (all_faults raw) ≡ Some (record { what = what; line = line }) → IsRefused raw what line
refused_of_first raw w what line h = elim (first_in (faults raw) (limits_passed raw.main_line (resolved raw)) (record { what = what; line = line }) h) [
  | inl k ↦ inl k
  | inr k ↦ inr (record { program = resolved raw; spelling = (program_ok raw k.0 w).1; scoped = (program_ok raw k.0 w).0; passed = k.1 })
]

-- ---- what a raw program comes to, on its faults alone

pub resolves_or_refused : (raw : RawProgram) → IsWellFormed raw → ((p : Program) × IsResolved raw p) ⊎ ((what : TypeFault) × (line : ℕ) × IsRefused raw what line)
resolves_or_refused raw w = go (all_faults raw) refl
  where
    go : (fs : List Fault) → all_faults raw ≡ fs → ((p : Program) × IsResolved raw p) ⊎ ((what : TypeFault) × (line : ℕ) × IsRefused raw what line)
    go [] h = let n = append_none (faults raw) (limits_passed raw.main_line (resolved raw)) h in inl (resolved raw, resolved_is raw n.0 n.1 w)
    go (f ∷ fs) h = inr (f.what, f.line, refused_of_first raw w f.what f.line (ap first h))

pub one_program : (raw : RawProgram) (p q : Program) → IsResolved raw p → IsResolved raw q → p ≡ q
one_program raw p q j k = resolved_only raw p j.spelling j.lawful.scoped ∙ sym (resolved_only raw q k.spelling k.lawful.scoped)

same_fault : (f g : Fault) → Some f ≡ Some g → f ≡ g
same_fault f g e = cc

pub one_fault : (raw : RawProgram) (what other : TypeFault) (line at : ℕ) → IsRefused raw what line → IsRefused raw other at → (what ≡ other) × (line ≡ at)
one_fault raw what other line at j k =
    let same = same_fault (record { what = what; line = line }) (record { what = other; line = at }) (sym (first_of_refused raw what line j) ∙ first_of_refused raw other at k) in
    (ap (λ (f : Fault). f.what) same, ap (λ (f : Fault). f.line) same)

pub not_both : (raw : RawProgram) (p : Program) (what : TypeFault) (line : ℕ) → IsResolved raw p → IsRefused raw what line → ⊥
not_both raw p what line j k = let e = sym (ap first (none_of_lawful raw p j)) ∙ first_of_refused raw what line k in absurd (cc)

abbrev what_of : Option Fault → TypeError
what_of (Some f) = Refused f.what f.line
what_of None = OutOfMemory

abbrev told : {X : Type 0} → Result X TypeError → Option Fault
told (Err (Refused what line)) = Some (record { what = what; line = line })
told _ = None

-- what `resolve` answers for a raw program
pub record Whole (raw : RawProgram) (result : Result code_program.Program TypeError) : Type 0 where
  pub program_is : IfOk result (λ p. IsResolved raw (program p))
  pub only : IfOk result (λ p. (q : Program) → IsResolved raw q → q ≡ program p)
  pub accepted : (q : Program) → IsResolved raw q → IsOkUnless result OutOfMemory
  pub refused : (what : TypeFault) (line : ℕ) → result ≡ Err (Refused what line) → IsRefused raw what line
  pub refused_exactly : (what : TypeFault) (line : ℕ) → IsRefused raw what line → (result ≡ Err (Refused what line)) ⊎ (result ≡ Err OutOfMemory)

pub whole : (raw : RawProgram) → IsWellFormed raw → (result : Result code_program.Program TypeError) → Answers (all_faults raw) program (resolved raw) result → Whole raw result
whole raw w (Ok p) h =
    let n = append_none (faults raw) (limits_passed raw.main_line (resolved raw)) h.0 in
    record {
      program_is = subst (IsResolved raw) (sym h.1) (resolved_is raw n.0 n.1 w);
      only = λ q k. resolved_only raw q k.spelling k.lawful.scoped ∙ sym h.1;
      accepted = λ q k. tt;
      refused = λ what line e. (let e' = e in cc);
      refused_exactly = λ what line k. (let e = sym (ap first h.0) ∙ first_of_refused raw what line k in cc);
    }
whole raw w (Err (Refused what line)) h = record {
  program_is = tt;
  only = tt;
  accepted = λ q k. (let e = sym (ap first (none_of_lawful raw q k)) ∙ h in cc);
  refused = λ what' line' e. refused_of_first raw w what' line' (subst (λ o. first (all_faults raw) ≡ told o) e h);
  refused_exactly = λ other at k. inl (ap (λ o. Err (what_of o)) (sym h ∙ first_of_refused raw other at k));
}
whole raw w (Err OutOfMemory) h = record {
  program_is = tt;
  only = tt;
  accepted = λ q k. refl;
  refused = λ what line e. (let e' = e in cc);
  refused_exactly = λ other at k. inr refl;
}
