-- The status of a run tells which faults came.
use Rattle.std.proofs.Common.{◌≡◌, ℕ, ◌-◌, ◌^◌, ◌<◌, refl, arith}
use Rattle.std.specs.Prelude.{◌↔◌}
use Rattle.cap_io.specs.Faults.{HasRisen}
use Rattle.cap_top.specs.declared.outcome.Status.{Status}
use Rattle.cap_top.specs.declared.outcome.Status.TheVariants.{Ok, Rejected, Usage, ReadFault, WriteFault, TooLong, BadScript, NoMemory}
use Rattle.cap_top.specs.Judged.{Judging}
use Rattle.cap_top.specs.Run.{Outside, NoReadFault, NoWriteFault, IsRun, IsUsageRun}
use Rattle.cap_said_laws.specs.Laws.{FaultsAreTold, TellsFaults}

-- a count that stays has not risen, and one that has risen is greater or has its last value
stays_told : (P : Type 0) (before after : ℕ) → (P → ⊥) → after ≡ before → P ↔ (before < after)
stays_told P before after fails stays = (λ p. absurd (fails p), λ rose. absurd (omega arith))

rises_told : (P : Type 0) (before after : ℕ) → P → HasRisen before after → after < 2 ^ 64 - 1 → P ↔ (before < after)
rises_told P before after holds risen below = (λ p. grind arith, λ rose. holds)

-- no call failed
neither_told : (before after : Outside) (status : Status) → (status ≡ ReadFault → ⊥) → (status ≡ WriteFault → ⊥) → NoReadFault before after → NoWriteFault before after → FaultsAreTold before after status
neither_told before after status no_read no_write read wrote = record {
  reading = λ below. stays_told (status ≡ ReadFault) before.read_faults after.read_faults no_read read;
  writing = λ below. stays_told (status ≡ WriteFault) before.write_faults after.write_faults no_write wrote;
}

-- the source failed, and the sink did not
read_told : (before after : Outside) → HasRisen before.read_faults after.read_faults → NoWriteFault before after → FaultsAreTold before after ReadFault
read_told before after risen wrote = record {
  reading = λ below. rises_told (ReadFault ≡ ReadFault) before.read_faults after.read_faults refl risen below;
  writing = λ below. stays_told (ReadFault ≡ WriteFault) before.write_faults after.write_faults (λ e. cc) wrote;
}

-- the sink failed, and the source did not
write_told : (before after : Outside) → NoReadFault before after → HasRisen before.write_faults after.write_faults → FaultsAreTold before after WriteFault
write_told before after read risen = record {
  reading = λ below. stays_told (WriteFault ≡ ReadFault) before.read_faults after.read_faults (λ e. cc) read;
  writing = λ below. rises_told (WriteFault ≡ WriteFault) before.write_faults after.write_faults refl risen below;
}

pub run_tells_faults : (says : Judging) → TellsFaults (IsRun says)
run_tells_faults says before after Ok report h = neither_told before after Ok (λ e. cc) (λ e. cc) h.read_well h.wrote_well
run_tells_faults says before after Rejected report h = neither_told before after Rejected (λ e. cc) (λ e. cc) h.read_well h.wrote_well
run_tells_faults says before after BadScript report h = neither_told before after BadScript (λ e. cc) (λ e. cc) h.read_well h.wrote_well
run_tells_faults says before after TooLong report h = neither_told before after TooLong (λ e. cc) (λ e. cc) h.read_well h.wrote_well
run_tells_faults says before after WriteFault report h = write_told before after h.read_well h.risen
run_tells_faults says before after ReadFault report h = read_told before after h.risen h.quiet.1
run_tells_faults says before after NoMemory report h = neither_told before after NoMemory (λ e. cc) (λ e. cc) h.read_well h.quiet.1
run_tells_faults says before after Usage report h = absurd h

pub usage_tells_faults : TellsFaults IsUsageRun
usage_tells_faults before after Usage report h = neither_told before after Usage (λ e. cc) (λ e. cc) h.0.1 h.2
usage_tells_faults before after WriteFault report h = write_told before after h.0.1 h.2
usage_tells_faults before after Ok report h = absurd h
usage_tells_faults before after BadScript report h = absurd h
usage_tells_faults before after TooLong report h = absurd h
usage_tells_faults before after ReadFault report h = absurd h
usage_tells_faults before after NoMemory report h = absurd h
usage_tells_faults before after Rejected report h = absurd h
