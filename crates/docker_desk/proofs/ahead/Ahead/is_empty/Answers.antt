use Rattle.cif_laws.proofs.Common.{◌≡◌, ℕ, ◌≤◌, List, [], ◌∷◌, length, take, drop, refl, sym, ◌∙◌, ap, arith, rules, tests, length-drop, ◌-◌, length-take-le}
use Rattle.docker_desk.proofs.ahead.Ahead.is_empty.Goals as goal

none_of : (xs : List ℕ) → length xs ≡ 0 → xs ≡ []
none_of [] none = refl
none_of (x ∷ xs) none = absurd (omega arith)

-- the number of bytes from index `at` up to `end`, not including `end`, is `end - at`
left_over : (bytes : List ℕ) (at end : ℕ) → end ≤ length bytes → length (drop at (take end bytes)) ≡ end - at
left_over bytes at end within = length-drop at (take end bytes) ∙ ap (λ n. n - at) (length-take-le end bytes within)

at_end : (bytes : List ℕ) (at end : ℕ) → end ≤ length bytes → at ≡ end → drop at (take end bytes) ≡ []
at_end bytes at end within same = none_of _ (let left = left_over bytes at end within in omega (arith, left, same))

none_left : (bytes : List ℕ) (at end : ℕ) → at ≤ end → end ≤ length bytes → drop at (take end bytes) ≡ [] → at ≡ end
none_left bytes at end order within none =
    let left = left_over bytes at end within in let size : length (drop at (take end bytes)) ≡ 0 = ap length none in omega (arith, left, size, order)

pub returns : goal.returns
returns c =
    let bytes = c.self.inside.bytes in (
      λ same. sym c.self.view_is ∙ at_end _ _ _ c.self.invariant.1 (search (rules, tests)),
      λ none.
          let same : c.self.inside.at ≡ c.self.inside.end =
          none_left _ _ _ c.self.invariant.0 c.self.invariant.1 (c.self.view_is ∙ none) in search (rules, tests),
    )
