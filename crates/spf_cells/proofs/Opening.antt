-- The table at the start keeps the rule.
use Rattle.std.proofs.Common.{◌≡◌, ℕ, zero, suc, ◌+◌, ◌^◌, ◌<◌, ◌≤◌, List, [], ◌∷◌, ◌++◌, map, length, get_or, replicate, sym, refl, ap, ◌∙◌, subst, arith, length-append, ℤ, pos, to_z, w64}
use Rattle.std.proofs.lemmas.List.{get_or-append-add, get_or_append_left}
use Rattle.std.proofs.lemmas.Int.{to_z-of_z}
use Rattle.std.specs.List.{Contains}
use mir.Val.{SFits}
use mathlib.Core.Option.{some, some-ne-none, some-injective}
use lib.ListN.{get_elem?, length-map, length-replicate, get_or-replicate}
use Rattle.atomic_table.specs.Table.{opening}
use Rattle.atomic_table.proofs.Lists.{at_map}
use Rattle.spf_region.specs.declared.span.Span.{Span}
use Rattle.spf_cells.specs.declared.view.Setting.{Setting}
use Rattle.spf_cells.specs.declared.view.View.{View}
use Rattle.spf_cells.specs.declared.view.Role.TheVariants.{Warden}
use Rattle.spf_cells.specs.declared.warden.Warden.TheInside.{Inside}
use Rattle.spf_cells.specs.Spans.{cells_of_plan, cells_with_blocks, entry_word, IsDisjointWithin}
use Rattle.spf_cells.specs.Rule.{first, view_of, IsConsistentTable, HasSetting, Knows}
use Rattle.spf_cells.specs.Made.{first_words}
use Rattle.spf_cells.specs.Warden.{IsWarden, warden_of}
use Rattle.spf_cells.proofs.Plans.{pair_inside, length-cells_with_blocks, pair_cell}

at_get : (l : List ℕ) (i a d : ℕ) → get_elem? l i ≡ some a → get_or l i d ≡ a
at_get [] i a d at = absurd (some-ne-none a (sym at))
at_get (x ∷ xs) zero a d at = some-injective x a at
at_get (x ∷ xs) (suc i) a d at = at_get xs i a d at

-- the only view
alone : (v w : View) (j : ℕ) → get_elem? (v ∷ []) j ≡ some w → (j ≡ 0) × (v ≡ w)
alone v w zero at = (refl, some-injective v w at)
alone v w (suc j) at = absurd (some-ne-none w (sym at))

pub length-first_words : (plan : List (List Span)) (entry : List ℤ) → length (first_words plan entry) ≡ length plan + length (cells_with_blocks plan)
length-first_words plan entry = omega (arith, length-append (replicate (length plan) 0) (map (entry_word entry) (cells_of_plan plan)), length-replicate {A = ℕ} (length plan) 0, length-map {B = ℕ} (cells_of_plan plan) (entry_word entry), length-cells_with_blocks plan)

pub opens : (k : Setting) → IsDisjointWithin k.plan (length k.entry) → ((c : ℕ) → c < length k.entry → SFits w64 (get_or k.entry c (pos 0))) → IsConsistentTable k (opening (first_words k.plan k.entry) [] (first k))
opens k apart fits =
    let n : ℕ = length k.plan in
    let zeros : List ℕ = replicate n 0 in
    let rest : List ℕ = map (entry_word k.entry) (cells_of_plan k.plan) in
    let long : length zeros ≡ n = length-replicate n 0 in
    let flag : (b : ℕ) → b < n → get_or (zeros ++ rest) b 0 ≡ 0 = λ b l. get_or_append_left zeros rest 0 b (omega arith) ∙ get_or-replicate n b 0 0 l in record {
      logs = λ _. [];
      owner = λ _. 0;
      warden = 0;
      apart = apart;
      wide = length-first_words k.plan k.entry;
      cells = λ i p at.
          let word : get_or (zeros ++ rest) (n + i) 0 ≡ entry_word k.entry p.1 =
          ap (λ m. get_or (zeros ++ rest) (m + i) 0) (sym long) ∙ (get_or-append-add zeros rest i 0 ∙ at_get rest i (entry_word k.entry p.1) 0 (at_map (entry_word k.entry) (cells_of_plan k.plan) i p.1 (pair_cell k.plan i p at))) in
          ap (to_z w64) word ∙ to_z-of_z w64 (get_or k.entry p.1 (pos 0)) (fits p.1 (pair_inside k.plan (length k.entry) apart i p at));
      flags = λ b l. subst (λ (x : ℕ). (x ≤ 1) × (0 < x → Contains k.raisable b)) (sym (flag b l)) (omega arith, λ h. absurd (omega arith));
      settings = λ j v at. subst (λ (x : View). HasSetting k x.setting x.role) (alone (first k) v j at).1 refl;
      seats = λ j v at. subst (λ (x : ℕ × View). Knows n (zeros ++ rest) (λ _. []) (λ _. 0) 0 x.0 x.1.role) (λ t. (sym (alone (first k) v j at).0 t, (alone (first k) v j at).1 t))
          (record {
            one = refl;
            count = length-replicate n 0;
            flags = λ b l. flag b l ∙ sym (get_or-replicate n b 0 0 l);
            taken = λ i t e. absurd (some-ne-none t (sym e));
            once = λ i j t u e f s. absurd (some-ne-none t (sym e));
            handed_out = λ i t e. absurd (some-ne-none t (sym e));
            kept = λ b h. (refl, refl);
          });
    }

pub new_warden_ok : (a : Inside) (k : Setting) → a.seat.me ≡ (first k, []) → a.seat.table_id.words ≡ length k.plan + length (cells_with_blocks k.plan) → a.seat.table_id.words < 2 ^ 63 → IsWarden a
new_warden_ok a k is words small =
    let z : a.seat.me.0.setting ≡ k = ap (λ m. m.0.setting) is in
    let r : a.seat.me.0.role ≡ (first k).role = ap (λ m. m.0.role) is in record {
      seat = is ∙ (λ t. (view_of (sym z t) (Warden (warden_of (sym r t))), []));
      words = words ∙ ap (λ (y : Setting). length y.plan + length (cells_with_blocks y.plan)) (sym z);
      small = small;
    }
