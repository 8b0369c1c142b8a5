use Rattle.cube_program.proofs.run_program.Goals as goal

-- the keeper of the run was new, what the end of the top call says is said of this run, and a last look leaves the end that is told
pub returns-clause-ran : goal.returns-clause-ran
returns-clause-ran g c = record {
  end = c.cube-end.result;
  keeper = c.cube-end.new.keeper;
  lines = c.lines.result;
  after = c.look_last-end.new.keeper;
  told = c.look_last-end.result;
  looks = rw c.written_over.ensures at (rw c.done_of-done.ensures at c.look_last-end.ensures);
  status = c.tell.ensures;
  says = rw c.new-keeper.ensures at c.cube-end.ensures.says;
  complete = rw c.new-keeper.ensures at c.cube-end.ensures.complete;
  loaded = rw c.new-keeper.ensures at c.cube-end.ensures.loaded;
}
