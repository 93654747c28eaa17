-- Each of the rules is sound.
use Rattle.std.proofs.Common.{◌≡◌, false}
use Rattle.std.proofs.lemmas.List.Elements.{All-from_recursion}
use Rattle.cap_laws.specs.Linear.{CategoryData, IsLinear}
use Rattle.cap_laws.specs.Universal.{IsAbelian}
use Rattle.cap_rule_laws.specs.Soundness.{Sound, AllSound, AllUnmarkedSound}
use Rattle.cap_rules.specs.Table.{rule_table}
use Rattle.cap_rule_laws.proofs.SoundSums.{sound-1, sound-2, sound-3, sound-4, sound-5, sound-6, sound-7, sound-8}
use Rattle.cap_rule_laws.proofs.SoundSquares.{sound-9, sound-10, sound-11, sound-12, sound-13, sound-14, sound-15, sound-16, sound-17, sound-18, sound-19, sound-20, sound-21, sound-22, sound-23, sound-24, sound-25, sound-26, sound-27, sound-28, sound-29, sound-30}
use Rattle.cap_rule_laws.proofs.SoundMonos.{sound-31, sound-32, sound-33, sound-34, sound-35, sound-36, sound-37, sound-39, sound-40, sound-41, sound-42, sound-43, sound-44, sound-45}
use Rattle.cap_rule_laws.proofs.SoundMaps.{sound-50, sound-51, sound-52, sound-53, sound-54, sound-58, sound-59}
use Rattle.cap_rule_laws.proofs.SoundHomology.{sound-55, sound-56, sound-57}
use Rattle.cap_rule_laws.proofs.SoundAbelian.{sound-38, sound-46, sound-47, sound-48, sound-49}

pub all-unmarked-sound : {Obj Mor : Type 0} {C : CategoryData Obj Mor} → IsLinear C → AllUnmarkedSound C rule_table
all-unmarked-sound {C = C} L = All-from_recursion (λ rule. rule.cost.abelian ≡ false → Sound C rule) rule_table (
  λ e. sound-1 L,
  (
    λ e. sound-2 L,
    (
      λ e. sound-3 L,
      (
        λ e. sound-4 L,
        (
          λ e. sound-5 L,
          (
            λ e. sound-6 L,
            (
              λ e. sound-7 L,
              (
                λ e. sound-8 L,
                (
                  λ e. sound-9 L,
                  (
                    λ e. sound-10 L,
                    (
                      λ e. sound-11 L,
                      (
                        λ e. sound-12 L,
                        (
                          λ e. sound-13 L,
                          (
                            λ e. sound-14 L,
                            (
                              λ e. sound-15 L,
                              (
                                λ e. sound-16 L,
                                (
                                  λ e. sound-17 L,
                                  (
                                    λ e. sound-18 L,
                                    (
                                      λ e. sound-19 L,
                                      (
                                        λ e. sound-20 L,
                                        (
                                          λ e. sound-21 L,
                                          (
                                            λ e. sound-22 L,
                                            (
                                              λ e. sound-23 L,
                                              (
                                                λ e. sound-24 L,
                                                (
                                                  λ e. sound-25 L,
                                                  (
                                                    λ e. sound-26 L,
                                                    (
                                                      λ e. sound-27 L,
                                                      (
                                                        λ e. sound-28 L,
                                                        (
                                                          λ e. sound-29 L,
                                                          (
                                                            λ e. sound-30 L,
                                                            (
                                                              λ e. sound-31 L,
                                                              (
                                                                λ e. sound-32 L,
                                                                (
                                                                  λ e. sound-33 L,
                                                                  (
                                                                    λ e. sound-34 L,
                                                                    (
                                                                      λ e. sound-35 L,
                                                                      (
                                                                        λ e. sound-36 L,
                                                                        (
                                                                          λ e. sound-37 L,
                                                                          (
                                                                            λ e. absurd (cc),
                                                                            (
                                                                              λ e. sound-39 L,
                                                                              (
                                                                                λ e. sound-40 L,
                                                                                (
                                                                                  λ e. sound-41 L,
                                                                                  (
                                                                                    λ e. sound-42 L,
                                                                                    (
                                                                                      λ e. sound-43 L,
                                                                                      (
                                                                                        λ e. sound-44 L,
                                                                                        (
                                                                                          λ e. sound-45 L,
                                                                                          (
                                                                                            λ e. absurd (cc),
                                                                                            (
                                                                                              λ e. absurd (cc),
                                                                                              (
                                                                                                λ e. absurd (cc),
                                                                                                (
                                                                                                  λ e. absurd (cc),
                                                                                                  (
                                                                                                    λ e. sound-50 L,
                                                                                                    (
                                                                                                      λ e. sound-51 L,
                                                                                                      (
                                                                                                        λ e. sound-52 L,
                                                                                                        (
                                                                                                          λ e. sound-53 L,
                                                                                                          (
                                                                                                            λ e. sound-54 L,
                                                                                                            (
                                                                                                              λ e. sound-55 L,
                                                                                                              (
                                                                                                                λ e. sound-56 L,
                                                                                                                (
                                                                                                                  λ e. sound-57 L,
                                                                                                                  (
                                                                                                                    λ e. sound-58 L,
                                                                                                                    (
                                                                                                                      λ e. sound-59 L,
                                                                                                                      tt,
                                                                                                                    ),
                                                                                                                  ),
                                                                                                                ),
                                                                                                              ),
                                                                                                            ),
                                                                                                          ),
                                                                                                        ),
                                                                                                      ),
                                                                                                    ),
                                                                                                  ),
                                                                                                ),
                                                                                              ),
                                                                                            ),
                                                                                          ),
                                                                                        ),
                                                                                      ),
                                                                                    ),
                                                                                  ),
                                                                                ),
                                                                              ),
                                                                            ),
                                                                          ),
                                                                        ),
                                                                      ),
                                                                    ),
                                                                  ),
                                                                ),
                                                              ),
                                                            ),
                                                          ),
                                                        ),
                                                      ),
                                                    ),
                                                  ),
                                                ),
                                              ),
                                            ),
                                          ),
                                        ),
                                      ),
                                    ),
                                  ),
                                ),
                              ),
                            ),
                          ),
                        ),
                      ),
                    ),
                  ),
                ),
              ),
            ),
          ),
        ),
      ),
    ),
  ),
)

pub all-sound : {Obj Mor : Type 0} {C : CategoryData Obj Mor} → IsLinear C → IsAbelian C → AllSound C rule_table
all-sound {C = C} L A = All-from_recursion (Sound C) rule_table (
  sound-1 L,
  (
    sound-2 L,
    (
      sound-3 L,
      (
        sound-4 L,
        (
          sound-5 L,
          (
            sound-6 L,
            (
              sound-7 L,
              (
                sound-8 L,
                (
                  sound-9 L,
                  (
                    sound-10 L,
                    (
                      sound-11 L,
                      (
                        sound-12 L,
                        (
                          sound-13 L,
                          (
                            sound-14 L,
                            (
                              sound-15 L,
                              (
                                sound-16 L,
                                (
                                  sound-17 L,
                                  (
                                    sound-18 L,
                                    (
                                      sound-19 L,
                                      (
                                        sound-20 L,
                                        (
                                          sound-21 L,
                                          (
                                            sound-22 L,
                                            (
                                              sound-23 L,
                                              (
                                                sound-24 L,
                                                (
                                                  sound-25 L,
                                                  (
                                                    sound-26 L,
                                                    (
                                                      sound-27 L,
                                                      (
                                                        sound-28 L,
                                                        (
                                                          sound-29 L,
                                                          (
                                                            sound-30 L,
                                                            (
                                                              sound-31 L,
                                                              (
                                                                sound-32 L,
                                                                (
                                                                  sound-33 L,
                                                                  (
                                                                    sound-34 L,
                                                                    (
                                                                      sound-35 L,
                                                                      (
                                                                        sound-36 L,
                                                                        (
                                                                          sound-37 L,
                                                                          (
                                                                            sound-38 L A,
                                                                            (
                                                                              sound-39 L,
                                                                              (
                                                                                sound-40 L,
                                                                                (
                                                                                  sound-41 L,
                                                                                  (
                                                                                    sound-42 L,
                                                                                    (
                                                                                      sound-43 L,
                                                                                      (
                                                                                        sound-44 L,
                                                                                        (
                                                                                          sound-45 L,
                                                                                          (
                                                                                            sound-46 L A,
                                                                                            (
                                                                                              sound-47 L A,
                                                                                              (
                                                                                                sound-48 L A,
                                                                                                (
                                                                                                  sound-49 L A,
                                                                                                  (
                                                                                                    sound-50 L,
                                                                                                    (
                                                                                                      sound-51 L,
                                                                                                      (
                                                                                                        sound-52 L,
                                                                                                        (
                                                                                                          sound-53 L,
                                                                                                          (
                                                                                                            sound-54 L,
                                                                                                            (
                                                                                                              sound-55 L,
                                                                                                              (
                                                                                                                sound-56 L,
                                                                                                                (
                                                                                                                  sound-57 L,
                                                                                                                  (
                                                                                                                    sound-58 L,
                                                                                                                    (
                                                                                                                      sound-59 L,
                                                                                                                      tt,
                                                                                                                    ),
                                                                                                                  ),
                                                                                                                ),
                                                                                                              ),
                                                                                                            ),
                                                                                                          ),
                                                                                                        ),
                                                                                                      ),
                                                                                                    ),
                                                                                                  ),
                                                                                                ),
                                                                                              ),
                                                                                            ),
                                                                                          ),
                                                                                        ),
                                                                                      ),
                                                                                    ),
                                                                                  ),
                                                                                ),
                                                                              ),
                                                                            ),
                                                                          ),
                                                                        ),
                                                                      ),
                                                                    ),
                                                                  ),
                                                                ),
                                                              ),
                                                            ),
                                                          ),
                                                        ),
                                                      ),
                                                    ),
                                                  ),
                                                ),
                                              ),
                                            ),
                                          ),
                                        ),
                                      ),
                                    ),
                                  ),
                                ),
                              ),
                            ),
                          ),
                        ),
                      ),
                    ),
                  ),
                ),
              ),
            ),
          ),
        ),
      ),
    ),
  ),
)
