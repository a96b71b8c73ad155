-- What the state of a literal or a row tells.
use Rattle.std.proofs.Common.{◌≡◌, refl, sym, ◌∙◌, Bool, true, false, true≢false}
use Rattle.meaning.specs.States.{State, Met, Open, Fails, state_of}

-- each state by what may and must hold
pub state_met : (may must : Bool) → must ≡ true → Met ≡ state_of may must
state_met may must e = rw e

pub state_open : (may must : Bool) → may ≡ true → must ≡ false → Open ≡ state_of may must
state_open may must e f = rw (f, e)

pub state_fails : (may must : Bool) → may ≡ false → must ≡ false → Fails ≡ state_of may must
state_fails may must e f = rw (f, e)

-- the other way round
pub met_must : (may must : Bool) → Met ≡ state_of may must → must ≡ true
met_must may true e = refl
met_must true false e = cc
met_must false false e = cc

pub open_may : (may must : Bool) → Open ≡ state_of may must → (may ≡ true) × (must ≡ false)
open_may may true e = cc
open_may true false e = (refl, refl)
open_may false false e = cc

pub fails_neither : (may must : Bool) → Fails ≡ state_of may must → (may ≡ false) × (must ≡ false)
fails_neither may true e = cc
fails_neither true false e = cc
fails_neither false false e = (refl, refl)

-- what holds only where it may, and wherever it must: a state that fails says that it does not, and one that is met that it does
pub never_holds : (may must holds : Bool) → (holds ≡ true → may ≡ true) → Fails ≡ state_of may must → holds ≡ true → ⊥
never_holds may must holds f e h = true≢false (sym (f h) ∙ (fails_neither may must e).0)

pub always_holds : (may must holds : Bool) → (must ≡ true → holds ≡ true) → Met ≡ state_of may must → holds ≡ true
always_holds may must holds g e = g (met_must may must e)

-- what holds wherever it may holds in every state but that
pub otherwise_holds : (may must holds : Bool) → (may ≡ true → holds ≡ true) → (must ≡ true → holds ≡ true) → (Fails ≡ state_of may must → ⊥) → holds ≡ true
otherwise_holds may true holds f g h = g refl
otherwise_holds true false holds f g h = f refl
otherwise_holds false false holds f g h = absurd (h refl)

-- a state that neither fails nor is open is met
pub met_otherwise : (state : State) → (state ≡ Fails → ⊥) → (state ≡ Open → ⊥) → state ≡ Met
met_otherwise Met f o = refl
met_otherwise Open f o = absurd (o refl)
met_otherwise Fails f o = absurd (f refl)
